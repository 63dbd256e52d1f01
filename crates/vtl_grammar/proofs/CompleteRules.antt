-- What is spelled by a rule is read by it: every rule.
use Rattle.std.proofs.Common.{◌≡◌, ℕ, zero, suc, max, List, [], ◌∷◌, ◌++◌, Bool, true, false, not, Some, None, inl, inr, refl, sym, ap, subst, ◌∙◌, append_assoc, arith}
use Rattle.std.proofs.lemmas.Bool.{eqb-true}
use Rattle.std.specs.Prelude.{nat_eq, nat_le, if◌then◌else◌, ◌&&◌}
use Rattle.vtl_values.specs.declared.place.Place.{Place}
use Rattle.vtl_tokens.specs.declared.token.Token.{Token}
use Rattle.vtl_grammar.specs.Marks.{Tokens, sort_of}
use Rattle.vtl_grammar.specs.Rules.{Counts, Limit, Rule, mark, name, integer, number, text, part, ◌▸◌, option, suffix, either, repeated, prefixed, here, Prefix, label, component, Part, OfPart, expression, clause, Of, At, Text, first_place, prefix_tokens, Spells, SpellsMore}
use Rattle.vtl_grammar.specs.Forms.{top}
use Rattle.vtl_grammar.specs.Expressions.{Spelled}
use Rattle.vtl_grammar.specs.Reading.{Reader, got, mapped, both, cons, some, member, firsts, part_firsts, first_sort, second_sort, read_more, has_prefix, with_some, with_none, read}
use Rattle.vtl_grammar.proofs.Sorts.{by_test, member-append}
use Rattle.vtl_grammar.proofs.Spellings.{and-true, Spells-no_tokens}
use Rattle.vtl_grammar.proofs.RuleLaws.{prefix_opens}
use Rattle.vtl_grammar.proofs.Complete.{Stops, Begins, Reads, tail_sorts, apart, Stops-left, Stops-right, Begins-append, Begins-apart, both-reads, mapped-reads, left-reads, right-reads, mark-reads, single, ends, join_part_ends, part_seconds, seconds, predictive, rule-begins, one_token, two_tokens}

-- what stops a part
abbrev pub part_ends : Part → List ℕ
part_ends (expression m) = tail_sorts m
part_ends (clause c) = join_part_ends c

abbrev pub part_fits : Part → Bool
part_fits (expression m) = nat_le m top
part_fits (clause c) = true

Stops-append : (js ks : List ℕ) (us : Tokens) → Stops (js ++ ks) us → Stops js us × Stops ks us
Stops-append js ks us s = (Stops-left js ks us s, Stops-right js ks us s)

not-true : (a : Bool) → not a ≡ true → a ≡ false
not-true true e = absurd cc
not-true false e = refl

both_false : (a b : Bool) → (a ≡ true → b ≡ false) → a && b ≡ false
both_false true b h = h refl
both_false false b h = refl

-- ---- lists

module _ {A : Type 0} (ks js : List ℕ) (l : Limit) (r : Reader A) (S : A → Tokens → Type 0) (k : ℕ) (begins : (x : A) (us : Tokens) → S x us → Begins ks us) (r-reads : Reads r S k js) (away : apart ks js ≡ true) where
  before_more : (n : ℕ) (xs : List A) (us rest : Tokens) → SpellsMore S n xs us → Stops (ks ++ js) rest → Stops js (us ++ rest)
  before_more n [] us rest s stop = subst (λ (ts : Tokens). Stops js (ts ++ rest)) (sym s) (Stops-right ks js rest stop)
  before_more zero (x ∷ xs) us rest s stop = absurd s
  before_more (suc n) (x ∷ xs) us rest (a, b, parts, s, t) stop = Begins-apart ks js (us ++ rest) away (Begins-append ks us rest (subst (λ (ts : Tokens). Begins ks ts) (sym parts) (Begins-append ks a b (begins x a s))))

  more-reads : (n : ℕ) → Reads (read_more ks l r n) (SpellsMore S n) k (ks ++ js)
  more-reads zero [] us rest s stop = (0, omega arith, ap (λ (ts : Tokens). read_more ks l r zero (ts ++ rest)) s ∙ (let e = Stops-left ks js rest stop in rw e refl))
  more-reads zero (x ∷ xs) us rest s stop = absurd s
  more-reads (suc n) [] us rest s stop = (0, omega arith, ap (λ (ts : Tokens). read_more ks l r (suc n) (ts ++ rest)) s ∙ (let e = Stops-left ks js rest stop in rw e refl))
  more-reads (suc n) (x ∷ xs) us rest (a, b, parts, s, t) stop =
      left-reads ks (λ ts. mapped cons (both r (read_more ks l r n) ts)) (got [] 0) k (x ∷ xs) us rest
      (Begins-append ks us rest (subst (λ (ts : Tokens). Begins ks ts) (sym parts) (Begins-append ks a b (begins x a s))))
      (mapped-reads cons (both r (read_more ks l r n)) (λ v vs. (c d : Tokens) × (vs ≡ c ++ d) × S v.0 c × SpellsMore S n v.1 d) k (ks ++ js)
      (both-reads r (read_more ks l r n) S (SpellsMore S n) k js (ks ++ js) r-reads (λ ys vs more q halts. more-reads n ys vs more q halts) (λ ys vs more q halts. before_more n ys vs more q halts)) (x, xs) us rest (a, b, parts, s, t) stop)

-- ---- every rule

first_place-append : (us rest : Tokens) → (us ≡ [] → ⊥) → first_place (us ++ rest) ≡ first_place us
first_place-append [] rest some = absurd (some refl)
first_place-append (u ∷ us) rest some = refl

prefix_tokens-append : (p : Prefix) (l : At Text) (q : Place) (b rest : Tokens) → prefix_tokens p l q b ++ rest ≡ prefix_tokens p l q (b ++ rest)
prefix_tokens-append label l q b rest = refl
prefix_tokens-append component l q b rest = refl

module _ (L : Counts) (T : Spelled) (some_token : (q : Part) (e : OfPart q) → T q e [] → ⊥) (T-begins : (q : Part) (e : OfPart q) (us : Tokens) → T q e us → Begins (part_firsts q) us)
    (T-second : (p : Prefix) (q : Part) (e : OfPart q) (t u : Token) (us : Tokens) → T q e (t ∷ u ∷ us) → sort_of t.what ≡ first_sort p → member (sort_of u.what) (part_seconds p q) ≡ true)
    (inner : (q : Part) → Reader (OfPart q)) (k : ℕ) (inner-reads : (q : Part) → part_fits q ≡ true → Reads (inner q) (T q) k (part_ends q)) where
  begins_by : (g : Rule) (v : Of g) (us : Tokens) → Spells L T g v us → Begins (firsts g) us
  begins_by g v us s = rule-begins L T T-begins g v us s

  next-stops : (g h : Rule) (y : Of h) (us rest : Tokens) → apart (firsts h) (ends g) ≡ true → Spells L T h y us → Stops (ends g) (us ++ rest)
  next-stops g h y us rest e s = Begins-apart (firsts h) (ends g) (us ++ rest) e (Begins-append (firsts h) us rest (begins_by h y us s))

  -- no prefix stands where the rule is spelled without
  abbrev alone_stop : Prefix → Rule → List ℕ
  alone_stop p g = if single (first_sort p) g then second_sort p ∷ [] else []

  one_plain : (p : Prefix) (g : Rule) (v : Of g) (t : Token) (rest : Tokens) → Spells L T g v (t ∷ []) → Stops (alone_stop p g) rest → has_prefix p (t ∷ rest) ≡ false
  one_plain p g v t [] s stop = refl
  one_plain p g v t (u ∷ us) s stop = both_false (nat_eq (sort_of t.what) (first_sort p)) (nat_eq (sort_of u.what) (second_sort p))
      (λ e. let alone : single (first_sort p) g ≡ true = one_token L T some_token (first_sort p) t (eqb-true _ _ e) g v s in
      let stopped : member (sort_of u.what) (second_sort p ∷ []) ≡ false = rw alone at stop in
      by_test (λ c. c ≡ false) (nat_eq (sort_of u.what) (second_sort p)) (λ q. let d : true ≡ false = rw q at stopped in absurd cc) (λ q. refl))

  two_plain : (p : Prefix) (g : Rule) (v : Of g) (t u : Token) (us rest : Tokens) → member (second_sort p) (seconds p g) ≡ false → Spells L T g v (t ∷ u ∷ us) → has_prefix p (t ∷ u ∷ (us ++ rest)) ≡ false
  two_plain p g v t u us rest away s = both_false (nat_eq (sort_of t.what) (first_sort p)) (nat_eq (sort_of u.what) (second_sort p))
      (λ e. let among : member (sort_of u.what) (seconds p g) ≡ true = two_tokens L T some_token p T-begins (T-second p) t u (eqb-true _ _ e) g v us s in
      by_test (λ c. nat_eq (sort_of u.what) (second_sort p) ≡ c → c ≡ false) (nat_eq (sort_of u.what) (second_sort p))
      (λ q is. let same : sort_of u.what ≡ second_sort p = eqb-true _ _ q in let d : member (second_sort p) (seconds p g) ≡ true = subst (λ (x : ℕ). member x (seconds p g) ≡ true) same among in absurd cc)
      (λ q is. refl) refl)

  no_prefix : (p : Prefix) (g : Rule) (v : Of g) (us rest : Tokens) → member (second_sort p) (seconds p g) ≡ false → Spells L T g v us → Stops (alone_stop p g) rest → has_prefix p (us ++ rest) ≡ false
  no_prefix p g v [] rest away s stop = absurd (Spells-no_tokens L T some_token g v s)
  no_prefix p g v (t ∷ []) rest away s stop = one_plain p g v t rest s stop
  no_prefix p g v (t ∷ u ∷ us) rest away s stop = two_plain p g v t u us rest away s

  pub rule-reads : (g : Rule) → predictive g ≡ true → Reads (read L inner g) (Spells L T g) k (ends g)
  rule-reads (mark m) fits v us rest s stop = mark-reads m k v us rest s stop
  rule-reads name fits v us rest s stop = (0, omega arith, ap (λ (ts : Tokens). read L inner name (ts ++ rest)) s)
  rule-reads integer fits v us rest s stop = (0, omega arith, ap (λ (ts : Tokens). read L inner integer (ts ++ rest)) s)
  rule-reads number fits v us rest s stop = (0, omega arith, ap (λ (ts : Tokens). read L inner number (ts ++ rest)) s)
  rule-reads text fits v us rest s stop = (0, omega arith, ap (λ (ts : Tokens). read L inner text (ts ++ rest)) s)
  rule-reads (part (expression m)) fits v us rest s stop = inner-reads (expression m) fits v us rest s stop
  rule-reads (part (clause c)) fits v us rest s stop = inner-reads (clause c) fits v us rest s stop
  rule-reads (g ▸ h) fits v us rest s stop =
      let f = and-true (predictive g) (predictive h && apart (firsts h) (ends g)) fits in
      let f' = and-true (predictive h) (apart (firsts h) (ends g)) f.1 in
      both-reads (read L inner g) (read L inner h) (Spells L T g) (Spells L T h) k (ends g) (ends h) (rule-reads g f.0) (rule-reads h f'.0) (λ y vs more q halts. next-stops g h y vs more f'.1 q) v us rest s stop
  rule-reads (option g h) fits (None, w) us rest s stop =
      let f = and-true (predictive g) (predictive h && (apart (firsts h) (ends g) && apart (firsts h) (firsts g))) fits in
      let f' = and-true (predictive h) (apart (firsts h) (ends g) && apart (firsts h) (firsts g)) f.1 in
      let f'' = and-true (apart (firsts h) (ends g)) (apart (firsts h) (firsts g)) f'.1 in
      right-reads (firsts g) (λ us. mapped with_some (both (read L inner g) (read L inner h) us)) (λ us. mapped with_none (read L inner h us)) k (None, w) us rest
      (Begins-apart (firsts h) (firsts g) (us ++ rest) f''.1 (Begins-append (firsts h) us rest (begins_by h w us s)))
      (mapped-reads with_none (read L inner h) (Spells L T h) k (ends h) (rule-reads h f'.0) w us rest s stop)
  rule-reads (option g h) fits (Some v, w) us rest s stop =
      let f = and-true (predictive g) (predictive h && (apart (firsts h) (ends g) && apart (firsts h) (firsts g))) fits in
      let f' = and-true (predictive h) (apart (firsts h) (ends g) && apart (firsts h) (firsts g)) f.1 in
      let f'' = and-true (apart (firsts h) (ends g)) (apart (firsts h) (firsts g)) f'.1 in
      left-reads (firsts g) (λ us. mapped with_some (both (read L inner g) (read L inner h) us)) (λ us. mapped with_none (read L inner h us)) k (Some v, w) us rest
      (subst (λ (ts : Tokens). Begins (firsts g) (ts ++ rest)) (sym s.2) (Begins-append (firsts g) (s.0 ++ s.1) rest (Begins-append (firsts g) s.0 s.1 (begins_by g v s.0 s.3))))
      (mapped-reads with_some (both (read L inner g) (read L inner h)) (λ v vs. (a b : Tokens) × (vs ≡ a ++ b) × Spells L T g v.0 a × Spells L T h v.1 b) k (ends h)
      (both-reads (read L inner g) (read L inner h) (Spells L T g) (Spells L T h) k (ends g) (ends h) (rule-reads g f.0) (rule-reads h f'.0) (λ y vs more q halts. next-stops g h y vs more f''.0 q)) (v, w) us rest s stop)
  rule-reads (suffix g h) fits (v, None) us rest s stop =
      let f = and-true (predictive g) (predictive h && apart (firsts h) (ends g)) fits in
      let stops = Stops-append (firsts h) (ends g ++ ends h) rest stop in
      let one = rule-reads g f.0 v us rest s (Stops-left (ends g) (ends h) rest stops.1) in
      let e = one.2 in
      let none = stops.0 in
      let levels : max one.0 0 ≡ one.0 = omega arith in
      (one.0, one.1, rw (e, none) (rw levels refl))
  rule-reads (suffix g h) fits (v, Some w) us rest s stop =
      let f = and-true (predictive g) (predictive h && apart (firsts h) (ends g)) fits in
      let f' = and-true (predictive h) (apart (firsts h) (ends g)) f.1 in
      let stops = Stops-append (firsts h) (ends g ++ ends h) rest stop in
      let one = rule-reads g f.0 v s.0 (s.1 ++ rest) s.3 (next-stops g h w s.1 rest f'.1 s.4) in
      let two = rule-reads h f'.0 w s.1 rest s.4 (Stops-right (ends g) (ends h) rest stops.1) in
      let e = one.2 in
      let e' = two.2 in
      let begins = Begins-append (firsts h) s.1 rest (begins_by h w s.1 s.4) in
      (max one.0 two.0, (let x = one.1 in let y = two.1 in omega arith), ap (λ (ts : Tokens). read L inner (suffix g h) (ts ++ rest)) s.2 ∙ ap (read L inner (suffix g h)) (append_assoc s.0 s.1 rest) ∙ rw (e, begins, e') refl)
  rule-reads (either g h) fits (inl v) us rest s stop =
      let f = and-true (predictive g) (predictive h && apart (firsts h) (firsts g)) fits in
      left-reads (firsts g) (λ us. mapped inl (read L inner g us)) (λ us. mapped inr (read L inner h us)) k (inl v) us rest
      (Begins-append (firsts g) us rest (begins_by g v us s))
      (mapped-reads inl (read L inner g) (Spells L T g) k (ends g) (rule-reads g f.0) v us rest s (Stops-left (ends g) (ends h) rest stop))
  rule-reads (either g h) fits (inr v) us rest s stop =
      let f = and-true (predictive g) (predictive h && apart (firsts h) (firsts g)) fits in
      let f' = and-true (predictive h) (apart (firsts h) (firsts g)) f.1 in
      right-reads (firsts g) (λ us. mapped inl (read L inner g us)) (λ us. mapped inr (read L inner h us)) k (inr v) us rest
      (Begins-apart (firsts h) (firsts g) (us ++ rest) f'.1 (Begins-append (firsts h) us rest (begins_by h v us s)))
      (mapped-reads inr (read L inner h) (Spells L T h) k (ends h) (rule-reads h f'.0) v us rest s (Stops-right (ends g) (ends h) rest stop))
  rule-reads (repeated l g h) fits v us rest s stop =
      let f = and-true (predictive g) (predictive h && (apart (firsts h) (ends g) && apart (firsts h) (ends h))) fits in
      let f' = and-true (predictive h) (apart (firsts h) (ends g) && apart (firsts h) (ends h)) f.1 in
      let f'' = and-true (apart (firsts h) (ends g)) (apart (firsts h) (ends h)) f'.1 in
      let stops = Stops-append (firsts h) (ends g ++ ends h) rest stop in
      let halts : (more : Tokens) → Stops (firsts h ++ (ends g ++ ends h)) more → Stops (firsts h ++ ends h) more = λ more q. halts_too (firsts h) (ends g) (ends h) more q in
      both-reads (read L inner g) (read_more (firsts h) l (read L inner h) (L l)) (Spells L T g) (SpellsMore (Spells L T h) (L l)) k (ends g) (firsts h ++ (ends g ++ ends h)) (rule-reads g f.0)
      (λ xs vs more q stop'. more-reads (firsts h) (ends h) l (read L inner h) (Spells L T h) k (λ x ws r. begins_by h x ws r) (rule-reads h f'.0) f''.1 (L l) xs vs more q (halts more stop'))
      (λ xs vs more q stop'. before_first (firsts h) (ends g) (ends h) (Of h) (Spells L T h) (λ x ws r. begins_by h x ws r) f''.0 (L l) xs vs more q stop') v us rest s stop
    where
      halts_too : (a b c : List ℕ) (ts : Tokens) → Stops (a ++ (b ++ c)) ts → Stops (a ++ c) ts
      halts_too a b c [] s = refl
      halts_too a b c (t ∷ ts) s = member-append (sort_of t.what) a c (Stops-left a (b ++ c) (t ∷ ts) s) (Stops-right b c (t ∷ ts) (Stops-right a (b ++ c) (t ∷ ts) s))

      before_first : (ks js is : List ℕ) (A : Type 0) (S : A → Tokens → Type 0) (begins : (x : A) (us : Tokens) → S x us → Begins ks us) (away : apart ks js ≡ true) (n : ℕ) (xs : List A) (us rest : Tokens) → SpellsMore S n xs us → Stops (ks ++ (js ++ is)) rest → Stops js (us ++ rest)
      before_first ks js is A S begins away n [] us rest s stop = subst (λ (ts : Tokens). Stops js (ts ++ rest)) (sym s) (Stops-left js is rest (Stops-right ks (js ++ is) rest stop))
      before_first ks js is A S begins away zero (x ∷ xs) us rest s stop = absurd s
      before_first ks js is A S begins away (suc n) (x ∷ xs) us rest (a, b, parts, s, t) stop = Begins-apart ks js (us ++ rest) away (Begins-append ks us rest (subst (λ (ts : Tokens). Begins ks ts) (sym parts) (Begins-append ks a b (begins x a s))))
  rule-reads (prefixed p g) fits (None, v) us rest s stop =
      let f = and-true (predictive g) (not (member (second_sort p) (seconds p g))) fits in
      let stops = Stops-append (alone_stop p g) (ends g) rest stop in
      let plain = no_prefix p g v us rest (not-true (member (second_sort p) (seconds p g)) f.1) s stops.0 in
      let one = rule-reads g f.0 v us rest s stops.1 in
      let e = one.2 in
      (one.0, one.1, rw (plain, e) refl)
  rule-reads (prefixed p g) fits (Some l, v) us rest (q, b, parts, s) stop =
      let f = and-true (predictive g) (not (member (second_sort p) (seconds p g))) fits in
      let stops = Stops-append (alone_stop p g) (ends g) rest stop in
      let one = rule-reads g f.0 v b rest s stops.1 in
      let e = one.2 in
      (one.0, one.1, ap (λ (ts : Tokens). read L inner (prefixed p g) (ts ++ rest)) parts ∙ ap (read L inner (prefixed p g)) (prefix_tokens-append p l q b rest) ∙ prefix_opens (read L inner g) p l q (b ++ rest) ∙ rw e refl)
  rule-reads (here g) fits v us rest (first, s) stop =
      let one = rule-reads g fits v.1 us rest s stop in
      let e = one.2 in
      let same : first_place (us ++ rest) ≡ v.0 = first_place-append us rest (λ none. Spells-no_tokens L T some_token g v.1 (subst (λ (ts : Tokens). Spells L T g v.1 ts) none s)) ∙ sym first in
      (one.0, one.1, rw (e, same) refl)
