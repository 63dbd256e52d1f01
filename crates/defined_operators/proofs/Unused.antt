-- What is written of a call tells nothing of arguments that its operator doesn't use.
use Rattle.std.proofs.Common.{◌≡◌, ◌⊎◌, inl, inr, ℕ, zero, suc, ◌+◌, ◌<◌, ◌≤◌, Bool, true, false, ◌&&◌, ◌||◌, if◌then◌else◌, cond, List, [], ◌∷◌, ◌++◌, Option, Some, None, map, length, take, get_or, refl, sym, ap, ◌∙◌, subst, add-one, add-zero, zero-add, arith}
use Rattle.std.proofs.Math.Seq.{take-suc, get_or-append_seam}
use Rattle.std.proofs.Math.ListN.{get_or-append}
use Rattle.std.specs.Prelude.{Result, IfOk, slice_get, position, unwrap_or, nat_lt}
use Rattle.std.specs.declared.alloc.AllocError.{AllocError}
use Rattle.std.specs.List.{list_any, position_or_len}
use Rattle.std.specs.Option.{option_map, option_and_then}
use Rattle.std.specs.Cmp.Lexicographic.{same_text, nat_list_eq_equiv}
use Rattle.std.proofs.lemmas.Bool.{ltb-true}
use Rattle.std.proofs.lemmas.Bool.Decides.{leb_tells}
use Rattle.std.proofs.lemmas.List.{length-map, length-append, length-take-le, map-append}
use Rattle.std.proofs.lemmas.List.Folds.{find_at}
use Rattle.std.proofs.lemmas.List.Quantifiers.{position-Some}
use Rattle.std.proofs.lemmas.Option.{slice_get-map, slice_get_cases, unwrap_or-slice_get}
use Rattle.vtl_values.specs.declared.place.Place.{Place}
use Rattle.vtl_syntax.specs.declared.expr.Expr.{Expr}
use Rattle.vtl_syntax.specs.declared.expr.Expr.TheVariants as tree
use Rattle.vtl_syntax.specs.declared.operator.DefinedOperator.{DefinedOperator}
use Rattle.vtl_syntax.specs.declared.operator.Param.{Param}
use Rattle.operator_faults.specs.declared.outline.What.{What}
use Rattle.operator_faults.specs.declared.outline.What.TheVariants as what
use Rattle.operator_faults.specs.declared.outline.Outline.{Outline, roll-Outline, fold-roll-Outline, ind-Outline}
use Rattle.operator_faults.specs.declared.outline.Outline.TheOpen.{Outline-F}
use Rattle.operator_faults.specs.Names.{same_word}
use Rattle.operator_faults.specs.Calls.{operator_of}
use Rattle.operator_faults.specs.Outlines.{outlined}
use Rattle.operator_faults.specs.Recursions.{number_of}
use Rattle.shortest_cycles.proofs.CycleLemmas.{tells, apart}
use Rattle.tree_copies.specs.Made.{Names, Calls, made, same_name}
use Rattle.tree_copies.proofs.Fused.{fused}
use Rattle.replaced_calls.specs.Replacing.{bound, opened, sorted_call}
use Rattle.replaced_calls.proofs.Alike.{all_true, what_fits, fits_step, fits, made_alike}
use Rattle.replaced_calls.proofs.Only.{any_name}
use Rattle.replaced_calls.proofs.Written.{opened_by, opened-none, makes-name, makes-call, makes-count}
use Rattle.replaced_calls.proofs.Enough.{by_found, found_number}
use Rattle.defined_operators.specs.declared.calling.Calling.{Calling}
use Rattle.defined_operators.specs.declared.calling.Calling.TheVariants as calling
use Rattle.defined_operators.specs.Uses.{Uses, uses_at, AreUsesTo, levels_to, is_name, stands_step, stands_in, is_used, left_out, used_from, used_arguments, flags_at, flags_of, kept_call, used_params, uses_of}
use Rattle.defined_operators.specs.Callings.{level, called, becomes}

-- ---- lists of arguments

kept_if : (h : Expr → Expr) (b : Bool) (a : Expr) (p : Place) → h (left_out p) ≡ left_out p → h (if b then a else left_out p) ≡ (if b then h a else left_out p)
kept_if h true a p stays = refl
kept_if h false a p stays = stays

pub used-map : (h : Expr → Expr) (fs : List Bool) (i : ℕ) (p : Place) (as' : List Expr) → h (left_out p) ≡ left_out p → map h (used_from fs i p as') ≡ used_from fs i p (map h as')
used-map h fs i p [] stays = refl
used-map h fs i p (a ∷ as') stays = λ j. kept_if h (is_used fs i) a p stays j ∷ used-map h fs (i + 1) p as' stays j

all-used : (i : ℕ) (p : Place) (as' : List Expr) → used_from [] i p as' ≡ as'
all-used i p [] = refl
all-used i p (a ∷ as') = ap (λ (k : List Expr). a ∷ k) (all-used (i + 1) p as')

used-at : (fs : List Bool) (p : Place) (as' : List Expr) (i k : ℕ) → is_used fs (i + k) ≡ true → slice_get (used_from fs i p as') k ≡ slice_get as' k
used-at fs p [] i k h = refl
used-at fs p (a ∷ as') i zero h =
    let e : i ≡ i + 0 = omega arith in
    ap (λ (b : Bool). Some (if b then a else left_out p)) (ap (is_used fs) e ∙ h)
used-at fs p (a ∷ as') i (suc k) h =
    let e : (i + 1) + k ≡ i + suc k = omega arith in
    used-at fs p as' (i + 1) k (ap (is_used fs) e ∙ h)

used-more : (fs : List Bool) (p : Place) (i : ℕ) (as' : List Expr) (x : Expr) → used_from fs i p (as' ++ x ∷ []) ≡ used_from fs i p as' ++ (if is_used fs (i + length as') then x else left_out p) ∷ []
used-more fs p i [] x = let e : i ≡ i + 0 = omega arith in ap (λ (j : ℕ). (if is_used fs j then x else left_out p) ∷ []) e
used-more fs p i (a ∷ as') x =
    let e : (i + 1) + length as' ≡ i + suc (length as') = omega arith in
    ap (λ (k : List Expr). (if is_used fs i then a else left_out p) ∷ k) (used-more fs p (i + 1) as' x ∙ ap (λ (j : ℕ). used_from fs (i + 1) p as' ++ (if is_used fs j then x else left_out p) ∷ []) e)

-- one more round
pub used-next : (h : Expr → Expr) (fs : List Bool) (p : Place) (as' : List Expr) (i : ℕ) (m n : List Expr) (x a : Expr) (b : Bool) → i < length as' → m ≡ used_from fs 0 p (map h (take i as'))
    → a ≡ get_or as' i a → b ≡ is_used fs i → x ≡ (if b then h a else left_out p) → n ≡ m ++ x ∷ [] → n ≡ used_from fs 0 p (map h (take (i + 1) as'))
used-next h fs p as' i m n x a b within before here told is put =
    let len : 0 + length (map h (take i as')) ≡ i = ap (λ (k : ℕ). 0 + k) (length-map (take i as') h ∙ length-take-le i as' (omega arith)) ∙ zero-add i in
    let more : take (i + 1) as' ≡ take i as' ++ a ∷ [] = ap (λ (k : ℕ). take k as') (add-one i) ∙ take-suc as' i a within ∙ ap (λ (e : Expr). take i as' ++ e ∷ []) (sym here) in
    put ∙ ap (λ (k : List Expr). k ++ x ∷ []) before
    ∙ ap (λ (y : Expr). used_from fs 0 p (map h (take i as')) ++ y ∷ []) (is ∙ ap (λ (c : Bool). if c then h a else left_out p) (told ∙ ap (is_used fs) (sym len)))
    ∙ sym (ap (λ (k : List Expr). used_from fs 0 p (map h k)) more ∙ ap (used_from fs 0 p) (map-append h (take i as') (a ∷ [])) ∙ used-more fs p 0 (map h (take i as')) (h a))

-- ---- names that stand in an outline

or-left : (a b : Bool) → a ≡ true → (a || b) ≡ true
or-left true b h = refl
or-left false b h = apart false h refl

or-right : (a b : Bool) → b ≡ true → (a || b) ≡ true
or-right true b h = refl
or-right false b h = h

and-intro : (a b : Bool) → a ≡ true → b ≡ true → (a && b) ≡ true
and-intro true b x y = y
and-intro false b x y = apart false x refl

abbrev it : Bool → Bool
it b = b

module _ (n : List ℕ → Bool) where
  -- where each name that stands there is among these, the outline fits
  abbrev Fits : Outline → Type 0
  Fits o = ((w : List ℕ) → stands_in w o ≡ true → n w ≡ true) → fits n any_name o ≡ true

  abbrev outline_in : (o : Outline) × Fits o → Outline
  outline_in s = s.0

  own_fits : (x : What) → ((w : List ℕ) → is_name w x ≡ true → n w ≡ true) → what_fits n any_name x ≡ true
  own_fits (what.Name s) h = h s.name (nat_list_eq_equiv.refl s.name)
  own_fits (what.Call s) h = refl
  own_fits what.Plain h = refl
  own_fits what.Level h = refl
  own_fits what.Inside h = refl
  own_fits what.InsideJoin h = refl

  each_fits : (ys : List ((o : Outline) × Fits o)) → ((w : List ℕ) → list_any it (map (stands_in w) (map outline_in ys)) ≡ true → n w ≡ true) → all_true (map (fits n any_name) (map outline_in ys)) ≡ true
  each_fits [] h = refl
  each_fits (y ∷ ys) h = and-intro (fits n any_name y.0) (all_true (map (fits n any_name) (map outline_in ys)))
      (y.1 (λ w s. h w (or-left (stands_in w y.0) (list_any it (map (stands_in w) (map outline_in ys))) s)))
      (each_fits ys (λ w s. h w (or-right (stands_in w y.0) (list_any it (map (stands_in w) (map outline_in ys))) s)))

  rolled_fits : (y : Outline-F ((o : Outline) × Fits o)) → Fits (roll-Outline (record { what = y.what; named = y.named; parts = map outline_in y.parts }))
  rolled_fits y h =
      let z : Outline-F Outline = record { what = y.what; named = y.named; parts = map outline_in y.parts } in
      fold-roll-Outline Bool (fits_step n any_name) z
      ∙ and-intro (what_fits n any_name y.what) (all_true (map (fits n any_name) (map outline_in y.parts)))
      (own_fits y.what (λ w s. h w (fold-roll-Outline Bool (stands_step w) z ∙ or-left (is_name w y.what) (list_any it (map (stands_in w) (map outline_in y.parts))) s)))
      (each_fits y.parts (λ w s. h w (fold-roll-Outline Bool (stands_step w) z ∙ or-right (is_name w y.what) (list_any it (map (stands_in w) (map outline_in y.parts))) s)))

  outline_fits : (o : Outline) → Fits o
  outline_fits o = ind-Outline Fits (λ x y is. subst (λ (z : Outline-F Outline). Fits (roll-Outline z)) is (rolled_fits y)) o

stands_fit : (o : Outline) → fits (λ w. stands_in w o) any_name o ≡ true
stands_fit o = outline_fits (λ w. stands_in w o) o (λ w s. s)

-- ---- what a parameter becomes

found_flag : (o : Outline) (ps : List Param) (v : List ℕ) (i : ℕ) → position (λ (q : Param). same_word q.name v) ps ≡ Some i → stands_in v o ≡ true → is_used (map (λ (q : Param). stands_in q.name o) ps) i ≡ true
found_flag o ps v i at stands =
    let flag : Param → Bool = λ (q : Param). stands_in q.name o in
    let test : Param → Bool = λ (q : Param). same_word q.name v in
    elim (slice_get_cases ps i).1 [
      | inl (x, within, is, here) ↦
          let passes : true ≡ test x = sym (position-Some test ps i x at).1 ∙ ap test here in
          let name : x.name ≡ v = same_text x.name v passes in
          ap (λ (b : Option Bool). unwrap_or b true) (slice_get-map flag ps i ∙ ap (option_map flag) is) ∙ ap (λ (w : List ℕ). stands_in w o) name ∙ stands
      | inr (past, none) ↦ ap (λ (b : Option Bool). unwrap_or b true) (slice_get-map flag ps i ∙ ap (option_map flag) none)
    ]

argument-used : (o : Outline) (ps : List Param) (as' : List Expr) (v : List ℕ) (p : Place) (r : Option ℕ) → position (λ (q : Param). same_word q.name v) ps ≡ r → stands_in v o ≡ true
    → option_and_then (λ (i : ℕ). slice_get (used_arguments (map (λ (q : Param). stands_in q.name o) ps) p as') i) r ≡ option_and_then (λ (i : ℕ). slice_get as' i) r
argument-used o ps as' v p None at stands = refl
argument-used o ps as' v p (Some i) at stands =
    let fs = map (λ (q : Param). stands_in q.name o) ps in
    used-at fs p as' 0 i (ap (is_used fs) (zero-add i) ∙ found_flag o ps v i at stands)

bound-used : (o : Outline) (ps : List Param) (as' : List Expr) (p : Place) (v : List ℕ) (q : Place) → stands_in v o ≡ true → bound ps (used_arguments (map (λ (x : Param). stands_in x.name o) ps) p as') v q ≡ bound ps as' v q
bound-used o ps as' p v q stands = ap (λ (r : Option Expr). unwrap_or r (tree.Name v q)) (argument-used o ps as' v p (position (λ (x : Param). same_word x.name v) ps) refl stands)

-- ---- what a call becomes

-- arguments that aren't used change nothing
abbrev Spares : List DefinedOperator → ℕ → Type 0
Spares os n = (w : List ℕ) (as' : List Expr) (p : Place) → opened os n w (used_arguments (flags_of os (uses_of os n) w) p as') p ≡ opened os n w as' p

abbrev spared : List DefinedOperator → ℕ → Expr → Expr
spared os n = made same_name (kept_call os (uses_of os n))

spared-same : (os : List DefinedOperator) (n : ℕ) → Spares os n → (name : Names) (e : Expr) → made name (opened os n) (spared os n e) ≡ made name (opened os n) e
spared-same os n spares name e =
    let h = made name (opened os n) in
    fused name same_name name (opened os n) (kept_call os (uses_of os n)) (opened os n) (makes-name name (opened os n))
    (λ w as' p.
    let fs = flags_of os (uses_of os n) w in
    makes-call name (opened os n) w (used_arguments fs p as') p
    ∙ ap (λ (k : List Expr). opened os n w k p) (used-map h fs 0 p as' (makes-count name (opened os n) p))
    ∙ spares w (map h as') p) e

no_flags : (r : Option ℕ) → flags_at [] r ≡ []
no_flags None = refl
no_flags (Some i) = refl

all_stay : (fs : List Bool) (p : Place) (as' : List Expr) → fs ≡ [] → used_arguments fs p as' ≡ as'
all_stay fs p as' none = ap (λ (gs : List Bool). used_arguments gs p as') none ∙ all-used 0 p as'

unnumbered : (os : List DefinedOperator) (w : List ℕ) → operator_of os w ≡ None → number_of os w ≡ None
unnumbered os w none =
    let test : DefinedOperator → Bool = λ (x : DefinedOperator). same_word x.name w in
    let n = position_or_len test os in
    let at : slice_get os n ≡ None = sym (find_at test os) ∙ none in
    elim (tells (nat_lt n (length os))) [
      | inl less ↦ let within : n < length os = ltb-true n (length os) less in elim (slice_get_cases os n).1 [
        | inl (x, _, is, _) ↦ absurd (cc (sym is ∙ at))
        | inr (past, _) ↦ absurd (omega arith)
      ]
      | inr more ↦ ap (λ (b : Bool). cond b (Some n) None) more
    ]

found_flags : (os : List DefinedOperator) (n : ℕ) (w : List ℕ) (o : DefinedOperator) → operator_of os w ≡ Some o → flags_of os (uses_of os (suc n)) w ≡ used_params os (uses_of os n) o
found_flags os n w o found =
    let f = found_number os w o found in
    let uses = used_params os (uses_of os n) in
    ap (flags_at (map uses os)) f.is ∙ ap (λ (r : Option (List Bool)). unwrap_or r []) (slice_get-map uses os f.number ∙ ap (option_map uses) f.at)

pub spares : (os : List DefinedOperator) (n : ℕ) → Spares os n
spares os zero w as' p = ap (λ (k : List Expr). tree.CallOf w k p) (all_stay (flags_at [] (number_of os w)) p as' (no_flags (number_of os w)))
spares os (suc n) w as' p =
    let fs = flags_of os (uses_of os (suc n)) w in
    by_found os w (opened os (suc n) w (used_arguments fs p as') p ≡ opened os (suc n) w as' p) (operator_of os w) refl
    (λ none. ap (λ (k : List Expr). opened os (suc n) w k p) (all_stay fs p as' (ap (flags_at (uses_of os (suc n))) (unnumbered os w none))))
    (λ o found.
    let ps = o.params in
    let b = outlined (spared os n o.body) in
    let gs = map (λ (x : Param). stands_in x.name b) ps in
    ap (λ (hs : List Bool). opened os (suc n) w (used_arguments hs p as') p) (found_flags os n w o found)
    ∙ ap (opened_by os n w (used_arguments gs p as') p) found
    ∙ sym (spared-same os n (spares os n) (bound ps (used_arguments gs p as')) o.body)
    ∙ made_alike (λ v. stands_in v b) any_name (bound ps (used_arguments gs p as')) (bound ps as') (opened os n) (opened os n)
    (λ v q h. bound-used b ps as' p v q h) (λ v bs q h. refl) (spared os n o.body) (stands_fit b)
    ∙ spared-same os n (spares os n) (bound ps as') o.body
    ∙ sym (ap (opened_by os n w as' p) found))

pub becomes-called : (c : Calling) (os : List DefinedOperator) (w : List ℕ) (as' : List Expr) (p : Place) → becomes c os w (used_arguments (flags_of os (uses_of os (level c)) w) p as') p ≡ called c os w as' p
becomes-called calling.Sorted os w as' p = ap (λ (k : List Expr). sorted_call os w k p) (all_stay (flags_at [] (number_of os w)) p as' (no_flags (number_of os w)))
becomes-called (calling.Kept n) os w as' p = refl
becomes-called (calling.Opened n) os w as' p = spares os n w as' p

-- ---- the uses by levels

levels-length : (os : List DefinedOperator) (n : ℕ) → length (levels_to os n) ≡ suc n
levels-length os zero = refl
levels-length os (suc n) = length-append (levels_to os n) (uses_of os (suc n) ∷ []) ∙ ap (λ (k : ℕ). k + 1) (levels-length os n) ∙ add-one (suc n)

level-read : (levels : List Uses) (k : ℕ) → uses_at levels k ≡ get_or levels k []
level-read levels k = unwrap_or-slice_get levels k []

pub levels_known : (os : List DefinedOperator) (n : ℕ) → AreUsesTo os (levels_to os n) n
levels_known os zero k within = let is : k ≡ 0 = omega arith in ap (uses_at ([] ∷ [])) is ∙ ap (uses_of os) (sym is)
levels_known os (suc n) k within =
    let before = levels_to os n in
    let last = uses_of os (suc n) in
    let long : length before ≡ suc n = levels-length os n in
    elim (leb_tells (suc k) (suc n)) [
      | inl t ↦
          let more : suc k ≤ suc n = t.1 in
          level-read (before ++ last ∷ []) k ∙ get_or-append before (last ∷ []) [] k (omega arith) ∙ sym (level-read before k) ∙ levels_known os n k (omega arith)
      | inr t ↦
          let less : suc n < suc k = t.1 in
          let is : k ≡ length before = omega arith in
          let same : k ≡ suc n = omega arith in
          level-read (before ++ last ∷ []) k ∙ ap (λ (j : ℕ). get_or (before ++ last ∷ []) j []) is ∙ get_or-append_seam before last [] [] ∙ ap (uses_of os) (sym same)
    ]

-- ---- what is answered

pub answered : (r : Result Expr AllocError) (x y : Expr) → x ≡ y → IfOk r (λ m. m ≡ x) → IfOk r (λ m. m ≡ y)
answered r x y same h = subst (λ (z : Expr). IfOk r (λ m. m ≡ z)) same h

pub body_answered : (r : Result Expr AllocError) (os : List DefinedOperator) (n : ℕ) (w : List ℕ) (as' : List Expr) (p : Place) (o : DefinedOperator) (ps : List Param) (bs : List Expr)
    → operator_of os w ≡ Some o → ps ≡ o.params → bs ≡ as' → IfOk r (λ m. m ≡ made (bound ps bs) (opened os n) o.body) → IfOk r (λ m. m ≡ opened os (suc n) w as' p)
body_answered r os n w as' p o ps bs found same_params same_arguments h =
    answered r (made (bound ps bs) (opened os n) o.body) (opened os (suc n) w as' p)
    (ap (λ (qs : List Param). made (bound qs bs) (opened os n) o.body) same_params ∙ ap (λ (cs : List Expr). made (bound o.params cs) (opened os n) o.body) same_arguments ∙ sym (ap (opened_by os n w as' p) found)) h

pub called_answered : (r : Result Expr AllocError) (c : Calling) (os : List DefinedOperator) (w : List ℕ) (as' bs : List Expr) (p : Place) → bs ≡ used_arguments (flags_of os (uses_of os (level c)) w) p as'
    → IfOk r (λ m. m ≡ becomes c os w bs p) → IfOk r (λ m. m ≡ called c os w as' p)
called_answered r c os w as' bs p is h = answered r (becomes c os w bs p) (called c os w as' p) (ap (λ (k : List Expr). becomes c os w k p) is ∙ becomes-called c os w as' p) h

pub known_none : (os : List DefinedOperator) → AreUsesTo os [] 0
known_none os k within = let is : k ≡ 0 = omega arith in sym (ap (uses_of os) is)

pub known_to : (os : List DefinedOperator) (levels : List Uses) (n k : ℕ) → levels ≡ levels_to os n → k ≡ n → AreUsesTo os levels k
known_to os levels n k is same j within = ap (λ (ls : List Uses). uses_at ls j) is ∙ levels_known os n j (omega arith)

pub levels_next : (os : List DefinedOperator) (n : ℕ) (before after : List Uses) (uses : Uses) → before ≡ levels_to os n → uses ≡ uses_of os (suc n) → after ≡ before ++ uses ∷ [] → after ≡ levels_to os (n + 1)
levels_next os n before after uses is told put =
    put ∙ ap (λ (ls : List Uses). ls ++ uses ∷ []) is ∙ ap (λ (us : Uses). levels_to os n ++ us ∷ []) told ∙ sym (ap (levels_to os) (add-one n))
