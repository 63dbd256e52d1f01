-- What an outline weighs is the sum of its own share and those of the parameters, each times what the parameter weighs.
use Rattle.std.proofs.Common.{◌≡◌, inl, inr, ℕ, zero, suc, ◌+◌, ◌-◌, ◌≤◌, ◌<◌, Bool, if◌then◌else◌, List, [], ◌∷◌, ◌++◌, Option, Some, None, length, drop, get_or, refl, sym, ap, ◌∙◌, subst, zero-add, arith}
use Rattle.std.proofs.Math.Path.{ap₂}
use Rattle.std.proofs.Math.Nat.{zero-min}
use Rattle.std.specs.Prelude.{min}
use Rattle.std.proofs.Math.ListN.{drop_of_length-le}
use Rattle.std.proofs.Math.Seq.{get_or-append_seam}
use Rattle.std.proofs.lemmas.List.{at_drop_more, get_or_append_left, get_or_past}
use Rattle.std.proofs.lemmas.List.Quantifiers.{position-Some}
use Rattle.std.proofs.lemmas.Bool.Decides.{leb_tells, eqb_tells}
use Rattle.vtl_syntax.specs.declared.operator.DefinedOperator.{DefinedOperator}
use Rattle.vtl_syntax.specs.declared.operator.Param.{Param}
use Rattle.vtl_syntax.specs.declared.words.Sort.TheVariants as sort
use Rattle.operator_faults.specs.declared.outline.Outline.{Outline}
use Rattle.operator_faults.specs.Names.{same_word}
use Rattle.written_sizes.specs.declared.measure.Measure.{Measure}
use Rattle.written_sizes.specs.declared.form.Form.{Form}
use Rattle.written_sizes.specs.declared.form.Share.TheVariants as share
use Rattle.written_sizes.specs.Arithmetic.{exact, plus, times}
use Rattle.written_sizes.specs.Weights.{with_arguments, with_names, applied, call_weight, weighed, weight, name_at, name_weight, number_in, shares, form}
use Rattle.written_sizes.proofs.Numbers.{none-times, one-times, times-one, plus-none, none-plus}
use Rattle.written_sizes.proofs.Linear.{mix, weighed-mix}
use Rattle.written_sizes.proofs.Sizing.{value}

-- ---- a list of shares

length-more : (xs : List ℕ) (x : ℕ) → length (xs ++ x ∷ []) ≡ suc (length xs)
length-more [] x = refl
length-more (y ∷ ys) x = ap suc (length-more ys x)

length-shares : (f : ℕ → ℕ) (n : ℕ) → length (shares f n) ≡ n
length-shares f zero = refl
length-shares f (suc n) = length-more (shares f n) (f n) ∙ ap suc (length-shares f n)

share-at : (f : ℕ → ℕ) (n i : ℕ) → i < n → get_or (shares f n) i 0 ≡ f i
share-at f zero i h = absurd (omega arith)
share-at f (suc n) i h = elim (leb_tells n i) [
  | inl t ↦ let e : n ≡ i = (let low : n ≤ i = t.1 in omega arith) in
      subst (λ (k : ℕ). get_or (shares f n ++ f n ∷ []) k 0 ≡ f k) e (ap (λ (k : ℕ). get_or (shares f n ++ f n ∷ []) k 0) (sym (length-shares f n)) ∙ get_or-append_seam (shares f n) (f n) [] 0)
  | inr t ↦ get_or_append_left (shares f n) (f n ∷ []) 0 i (subst (λ (k : ℕ). i < k) (sym (length-shares f n)) t.1) ∙ share-at f n i t.1
]

share-past : (f : ℕ → ℕ) (n i : ℕ) → n ≤ i → get_or (shares f n) i 0 ≡ 0
share-past f n i h = get_or_past (shares f n) i 0 (subst (λ (k : ℕ). k ≤ i) (sym (length-shares f n)) h)

module _ (m : Measure) where
  -- ---- sums of multiples, one after the other

  abbrev sum_up : (ℕ → ℕ) → (ℕ → ℕ) → ℕ → ℕ → ℕ → ℕ
  sum_up c v a i zero = a
  sum_up c v a i (suc n) = sum_up c v (plus m a (times m (c i) (v i))) (i + 1) n

  sums : (c v F : ℕ → ℕ) → ((i : ℕ) → F (i + 1) ≡ plus m (F i) (times m (c i) (v i))) → (i n : ℕ) → sum_up c v (F i) i n ≡ F (i + n)
  sums c v F step i zero = let e : i ≡ i + 0 = omega arith in ap F e
  sums c v F step i (suc n) = let e : i + 1 + n ≡ i + suc n = omega arith in ap (λ (k : ℕ). sum_up c v k (i + 1) n) (sym (step i)) ∙ sums c v F step (i + 1) n ∙ ap F e

  with_arguments-sum : (f : Form) (vs : List ℕ) (n i a : ℕ) → i + n ≡ length vs → with_arguments (exact m) m 1 [] (Some f) i a (drop i vs) ≡ sum_up (λ j. get_or f.times j 0) (λ j. get_or vs j 1) a i n
  with_arguments-sum f vs zero i a h = ap (with_arguments (exact m) m 1 [] (Some f) i a) (drop_of_length-le vs (omega arith))
  with_arguments-sum f vs (suc n) i a h =
      let more : i + 1 + n ≡ length vs = omega arith in
      at_drop_more (with_arguments (exact m) m 1 [] (Some f) i a) vs i 1 (omega arith)
      ∙ with_arguments-sum f vs n (i + 1) (plus m a (times m (get_or f.times i 0) (get_or vs i 1))) more

  with_names-sum : (ts vs : List ℕ) (n i a : ℕ) → i + n ≡ length ts → length vs ≤ i → with_names (exact m) 1 a (drop i ts) ≡ sum_up (λ j. get_or ts j 0) (λ j. get_or vs j 1) a i n
  with_names-sum ts vs zero i a h past = ap (with_names (exact m) 1 a) (drop_of_length-le ts (omega arith))
  with_names-sum ts vs (suc n) i a h past =
      let more : i + 1 + n ≡ length ts = omega arith in
      at_drop_more (with_names (exact m) 1 a) ts i 0 (omega arith)
      ∙ ap (λ (v : ℕ). with_names (exact m) 1 (plus m a (times m (get_or ts i 0) v)) (drop (i + 1) ts)) (sym (get_or_past vs i 1 past))
      ∙ with_names-sum ts vs n (i + 1) (plus m a (times m (get_or ts i 0) (get_or vs i 1))) more (omega arith)

  -- ---- what a name weighs where so many parameters count

  abbrev counted : List ℕ → ℕ → Option ℕ → ℕ
  counted vs zero q = name_at share.Own q
  counted vs (suc i) q = mix m (get_or vs i 1) (counted vs i q) (name_at (share.Of i) q)

  counted-none : (vs : List ℕ) (i : ℕ) → counted vs i None ≡ 1
  counted-none vs zero = refl
  counted-none vs (suc i) = ap₂ (plus m) (counted-none vs i) (none-times m (get_or vs i 1)) ∙ plus-none m 1

  counted-before : (vs : List ℕ) (i j : ℕ) → i ≤ j → counted vs i (Some j) ≡ 0
  counted-before vs zero j h = refl
  counted-before vs (suc i) j h = elim (eqb_tells j i) [
    | inl t ↦ absurd (let e : j ≡ i = t.1 in omega arith)
    | inr t ↦ ap₂ (plus m) (counted-before vs i j (omega arith)) (ap (λ (b : Bool). times m (if b then 1 else 0) (get_or vs i 1)) t.0 ∙ none-times m (get_or vs i 1)) ∙ plus-none m 0
  ]

  counted-at : (vs : List ℕ) (i j : ℕ) → j < i → counted vs i (Some j) ≡ get_or vs j 1
  counted-at vs zero j h = absurd (omega arith)
  counted-at vs (suc i) j h = elim (eqb_tells j i) [
    | inl t ↦ let e : j ≡ i = t.1 in
        ap₂ (plus m) (counted-before vs i j (omega arith)) (ap (λ (b : Bool). times m (if b then 1 else 0) (get_or vs i 1)) t.0 ∙ one-times m (get_or vs i 1))
        ∙ none-plus m (get_or vs i 1) ∙ ap (λ (k : ℕ). get_or vs k 1) (sym e)
    | inr t ↦ let ne = t.1 in
        ap₂ (plus m) (counted-at vs i j (omega (arith, ne))) (ap (λ (b : Bool). times m (if b then 1 else 0) (get_or vs i 1)) t.0 ∙ none-times m (get_or vs i 1)) ∙ plus-none m (get_or vs j 1)
  ]

  all_counted : (vs : List ℕ) (ps : List Param) (w : List ℕ) (q : Option ℕ) → number_in ps w ≡ q → counted vs (length ps) q ≡ value m vs q
  all_counted vs ps w None is = counted-none vs (length ps)
  all_counted vs ps w (Some j) is = counted-at vs (length ps) j (position-Some (λ (p : Param). same_word p.name w) ps j (record { name = w; sort = sort.Integer; place = record { line = 1; column = 1 } }) is).0

  -- ---- the weight of a body

  module _ (os : List DefinedOperator) (fs : List Form) (ps : List Param) (body : Outline) (vs : List ℕ) where
    abbrev with_unit : ℕ → (List ℕ → ℕ) → ℕ
    with_unit u n = weighed (exact m) m u n (call_weight (exact m) m u os fs) body

    -- where so many parameters count
    abbrev so_far : ℕ → ℕ
    so_far i = with_unit 1 (λ w. counted vs i (number_in ps w))

    abbrev share_of : ℕ → ℕ
    share_of i = weight (exact m) m os fs ps (share.Of i) body

    unit_stays : (c : ℕ) → mix m c 1 0 ≡ 1
    unit_stays c = ap (plus m 1) (none-times m c) ∙ plus-none m 1

    one_more : (i : ℕ) → so_far (suc i) ≡ plus m (so_far i) (times m (share_of i) (get_or vs i 1))
    one_more i = sym (weighed-mix m (get_or vs i 1) os fs 1 0 (λ w. counted vs i (number_in ps w)) (name_weight ps (share.Of i)) body ∙ ap (λ (u : ℕ). with_unit u (λ w. counted vs (suc i) (number_in ps w))) (unit_stays (get_or vs i 1)))

    -- no more than there are
    abbrev of_some : ℕ → ℕ
    of_some i = so_far (min i (length ps))

    some_more : (i : ℕ) → of_some (i + 1) ≡ plus m (of_some i) (times m (get_or (shares share_of (length ps)) i 0) (get_or vs i 1))
    some_more i = elim (leb_tells (length ps) i) [
      | inl t ↦ let past : length ps ≤ i = t.1 in
          let e : min (i + 1) (length ps) ≡ min i (length ps) = omega arith in
          ap so_far e ∙ sym (ap (λ (n : ℕ). plus m (of_some i) (times m n (get_or vs i 1))) (share-past share_of (length ps) i past) ∙ ap (plus m (of_some i)) (none-times m (get_or vs i 1)) ∙ plus-none m (of_some i))
      | inr t ↦ let below : i < length ps = t.1 in
          let e : min (i + 1) (length ps) ≡ suc i = omega arith in
          let d : min i (length ps) ≡ i = omega arith in
          ap so_far e ∙ one_more i ∙ ap₂ (λ (a n : ℕ). plus m (so_far a) (times m n (get_or vs i 1))) (sym d) (sym (share-at share_of (length ps) i below))
    ]

    abbrev body_form : Form
    body_form = form (exact m) m os fs ps body

    own_first : times m body_form.own 1 ≡ of_some 0
    own_first = times-one m body_form.own ∙ ap so_far (sym (zero-min (length ps)))

    with_values : with_arguments (exact m) m 1 [] (Some body_form) 0 (times m body_form.own 1) vs ≡ of_some (length vs)
    with_values =
        ap (λ (a : ℕ). with_arguments (exact m) m 1 [] (Some body_form) 0 a vs) own_first
        ∙ with_arguments-sum body_form vs (length vs) 0 (of_some 0) (zero-add (length vs))
        ∙ sums (λ j. get_or body_form.times j 0) (λ j. get_or vs j 1) of_some some_more 0 (length vs)
        ∙ ap of_some (zero-add (length vs))

    with_rest : with_names (exact m) 1 (of_some (length vs)) (drop (length vs) body_form.times) ≡ so_far (length ps)
    with_rest = elim (leb_tells (length vs) (length ps)) [
      | inl t ↦ let fit : length vs ≤ length ps = t.1 in
          let n = length ps - length vs in
          let all : length vs + n ≡ length ps = omega arith in
          let e : min (length vs + n) (length ps) ≡ length ps = omega arith in
          with_names-sum body_form.times vs n (length vs) (of_some (length vs)) (all ∙ sym (length-shares share_of (length ps))) (omega arith)
          ∙ sums (λ j. get_or body_form.times j 0) (λ j. get_or vs j 1) of_some some_more (length vs) n
          ∙ ap so_far e
      | inr t ↦ let more : length ps < length vs = t.1 in
          let e : min (length vs) (length ps) ≡ length ps = omega arith in
          let long : length (shares share_of (length ps)) ≤ length vs = subst (λ (k : ℕ). k ≤ length vs) (sym (length-shares share_of (length ps))) (omega arith) in
          ap (with_names (exact m) 1 (of_some (length vs))) (drop_of_length-le body_form.times long) ∙ ap so_far e
    ]

    pub shares_add : with_unit 1 (λ w. value m vs (number_in ps w)) ≡ applied (exact m) m 1 [] (Some body_form) vs
    shares_add =
        sym (λ i. with_unit 1 (λ w. all_counted vs ps w (number_in ps w) refl i))
        ∙ sym (ap (λ (n : ℕ). with_names (exact m) 1 n (drop (length vs) body_form.times)) with_values ∙ with_rest)
