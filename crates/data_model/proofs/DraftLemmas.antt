-- How a draft grows, and what it is worth when it is finished.
use Rattle.std.proofs.Common.{◌≡◌, ◌<◌, ◌≤◌, ℕ, List, [], ◌∷◌, ◌++◌, Option, Some, None, Bool, true, false, cond, sym, ◌∙◌, ap, refl, subst, inl, inr, ◌||◌, arith, nat_le}
use Rattle.std.proofs.lemmas.Bool.{cases_Bool}
use Rattle.std.proofs.lemmas.Bool.Decides.{nat_tests}
use Rattle.std.proofs.lemmas.List.Folds.{list_any-append}
use Rattle.std.specs.Option.{option_eq}
use Rattle.std.specs.declared.cmp.Ordering.{Ordering}
use Rattle.std.specs.Ordering.{eq_by_cmp}
use Rattle.std.specs.Cmp.{IsTotalOrder}
use Rattle.std.specs.FinMap.{FinMap, get, len, get-empty, get-insert, IsAntisymmetric}
use Rattle.data_model.specs.Maps.{is_listed}
use Rattle.data_model.specs.Deltas.{Pair, DeltaOf, LeadsAt, IsEqualityTest, Leads, apply, count_after}
use Rattle.data_model.specs.Outcomes.{Answer, Made, Range, TooMany, Outcome, settled, IsLeastListed, Covers, outcome, made, range_at, too_many, IsResult, IsOutcome}
use Rattle.data_model.specs.Answers.{IsRight, right_answer}
use Rattle.data_model.specs.Drafts.{Draft, nothing, note_value, note_beyond, note_key, finished, IsDraft, IsSameElsewhere}
use Rattle.data_model.specs.declared.TheConstants.{POINT_LIMIT}
use Rattle.data_model.proofs.MapLemmas.{tied}
use Rattle.data_model.proofs.DeltaLemmas.{contradicted, option_eq-decides, get-apply, LeadsAt-after, Leads-by_key, Leads-unique, Leads-delta_between, len-apply-count}
use Rattle.data_model.proofs.OutcomeLemmas.{IsLeastListed-fails, IsLeastListed-passes, IsLeastListed-along, IsLeast-listed, none_passes-listed, outcome-is, IsOutcome-unique}

-- ---- one note more

-- a list with a key at its end has that key and the others
last_first : (a b : Bool) → (a || (b || false)) ≡ (b || a)
last_first true true = refl
last_first true false = refl
last_first false true = refl
last_first false false = refl

either_way : {A : Type 0} (b : Bool) (x y : A) → x ≡ y → cond b x y ≡ x
either_way true x y e = refl
either_way false x y e = sym e

pub is_listed-last : {K : Type 0} (R : K → K → Ordering) (ks : List K) (k q : K) → is_listed R (ks ++ k ∷ []) q ≡ (eq_by_cmp R q k || is_listed R ks q)
is_listed-last R ks k q = list_any-append (eq_by_cmp R q) ks (k ∷ []) ∙ last_first (is_listed R ks q) (eq_by_cmp R q k)

module _ {K X : Type 0} {R : K → K → Ordering} (o : IsTotalOrder R) (exact : IsAntisymmetric R) (beyond : K → Bool) (old new : K → Option X) where
  -- with no note the draft is empty
  pub IsDraft-nothing : IsDraft {R = R} beyond [] old new [] nothing
  IsDraft-nothing = record { least = λ j i. cc; changes = λ e k. rw (get-empty R k) refl }

  -- an evaluation is noted that is in range
  pub IsDraft-in_range : (es ks : List K) (k : K) (n : Draft R X) → beyond k ≡ false → IsDraft beyond es old new ks n → IsDraft beyond (es ++ k ∷ []) old new ks n
  IsDraft-in_range es ks k n out h = record { least = IsLeastListed-fails o exact beyond k es _ n.beyond (is_listed-last R es k) out h.least; changes = h.changes }

  -- or one that is out of range: from then on the values don't matter
  pub IsDraft-beyond : (es ks js : List K) (k : K) (n : Draft R X) → beyond k ≡ true → IsDraft beyond es old new ks n → IsDraft beyond (es ++ k ∷ []) old new js (note_beyond k n)
  IsDraft-beyond es ks js k n out h = record { least = IsLeastListed-passes o exact beyond k es _ n.beyond (is_listed-last R es k) out h.least; changes = λ e. cc }

  -- the change at a key, or none where the value stays
  LeadsAt-last : (ks : List K) (d : DeltaOf R X) (k : K) (c : Option (Pair X)) → LeadsAt c (old k) (new k) → ((j : K) → LeadsAt (get d j) (old j) (cond (is_listed R ks j) (new j) (old j))) → (e : DeltaOf R X) → ((q : K) → get e q ≡ cond (eq_by_cmp R q k) c (get d q)) → (j : K) → LeadsAt (get e j) (old j) (cond (is_listed R (ks ++ k ∷ []) j) (new j) (old j))
  LeadsAt-last ks d k c at h e has j = rw (is_listed-last R ks k j, has j) (elim (cases_Bool (eq_by_cmp R j k)) [
    | inl yes' ↦ rw yes' (subst (λ t. LeadsAt c (old t) (new t)) (sym (tied o exact j k yes')) at)
    | inr no' ↦ rw no' (h j)
  ])

  -- where a value stays it doesn't matter whether it is noted
  stays_last : (ks : List K) (k : K) → old k ≡ new k → (j : K) → cond (is_listed R ks j) (new j) (old j) ≡ cond (is_listed R (ks ++ k ∷ []) j) (new j) (old j)
  stays_last ks k e j = rw (is_listed-last R ks k j) (elim (cases_Bool (eq_by_cmp R j k)) [
    | inl yes' ↦ rw yes' (either_way (is_listed R ks j) (new j) (old j) (subst (λ i. new i ≡ old i) (sym (tied o exact j k yes')) (sym e)))
    | inr no' ↦ rw no' refl
  ])

  module _ (same : X → X → Bool) (t : IsEqualityTest same) where
    -- a key of the result is noted, with its old and its new value
    pub IsDraft-value : (es ks : List K) (k : K) (n : Draft R X) → IsDraft beyond es old new ks n → IsDraft beyond es old new (ks ++ k ∷ []) (note_value same k (old k) (new k) n)
    IsDraft-value es ks k n h = elim (cases_Bool (option_eq same (old k) (new k))) [
      | inl yes' ↦ rw yes' record { least = h.least; changes = λ e j. subst (λ (v : Option X). LeadsAt (get n.changes j) (old j) v) (stays_last ks k ((option_eq-decides same t (old k) (new k)).0 yes') j) (h.changes e j) }
      | inr no' ↦ rw no' record { least = h.least; changes = λ e. LeadsAt-last ks n.changes k (Some (old k, new k)) (refl, refl, λ s. contradicted _ ((option_eq-decides same t (old k) (new k)).1 s) no') (h.changes e) _ (get-insert o n.changes k (old k, new k)) }
    ]

    -- an evaluation and the key of the result that it is for are noted
    pub IsDraft-key : (es ks : List K) (k : K) (n : Draft R X) → IsDraft beyond es old new ks n → IsDraft beyond (es ++ k ∷ []) old new (ks ++ k ∷ []) (note_key same k (beyond k) (old k) (new k) n)
    IsDraft-key es ks k n h = elim (cases_Bool (beyond k)) [
      | inl out ↦ rw out (IsDraft-beyond es ks (ks ++ k ∷ []) k n out h)
      | inr within ↦ rw within (IsDraft-value (es ++ k ∷ []) ks k n (IsDraft-in_range es ks k n within h))
    ]

    -- the same with what was found: whether the evaluation is out of range, and if not the two values
    pub IsDraft-found : (es ks : List K) (k : K) (out : Bool) (x y : Option X) (n : Draft R X) → out ≡ beyond k → (out ≡ false → (x ≡ old k) × (y ≡ new k)) → IsDraft beyond es old new ks n → IsDraft beyond (es ++ k ∷ []) old new (ks ++ k ∷ []) (note_key same k out x y n)
    IsDraft-found es ks k true x y n out values h = IsDraft-beyond es ks (ks ++ k ∷ []) k n (sym out) h
    IsDraft-found es ks k false x y n out values h = let v = values refl in rw (v.0, v.1) (IsDraft-value (es ++ k ∷ []) ks k n (IsDraft-in_range es ks k n (sym out) h))

module _ {K X : Type 0} {R : K → K → Ordering} where
  -- a draft depends on what is evaluated and valued at each key alone
  pub IsDraft-along : (beyond beyond' : K → Bool) (old old' new new' : K → Option X) (es ks : List K) (n : Draft R X) → ((k : K) → beyond' k ≡ beyond k) → ((k : K) → old' k ≡ old k) → ((k : K) → new' k ≡ new k) → IsDraft beyond es old new ks n → IsDraft beyond' es old' new' ks n
  IsDraft-along beyond beyond' old old' new new' es ks n e f g h = record {
    least = IsLeastListed-along R beyond beyond' es n.beyond e h.least;
    changes = λ none k. rw (f k, g k) (h.changes none k);
  }

-- ---- the end

module _ {K X : Type 0} {R : K → K → Ordering} (o : IsTotalOrder R) (exact : IsAntisymmetric R) where
  -- the right answer by the number of points after the changes
  IsRight-counted : (beyond : K → Bool) (value : K → Option X) (x : FinMap R X) (p : Outcome R X) (d : DeltaOf R X) (points : ℕ) → Leads d x (apply d x) → points ≡ len (apply d x) → IsResult beyond value (apply d x) → IsOutcome beyond value p → IsRight p x (settled None points d)
  IsRight-counted beyond value x p d points l e h is = elim (cases_Bool (nat_le points POINT_LIMIT)) [
    | inl yes' ↦
        let few : len (apply d x) ≤ POINT_LIMIT = grind (arith, nat_tests, yes', e) in
        rw yes' (subst (λ (q : Outcome R X). IsRight q x (Made d)) (IsOutcome-unique o exact beyond value (made (apply d x)) p (h, few) is) l)
    | inr no' ↦
        let many : POINT_LIMIT < len (apply d x) = grind (arith, nat_tests, no', e) in
        rw no' (subst (λ (q : Outcome R X). IsRight q x TooMany) (IsOutcome-unique o exact beyond value too_many p (apply d x, h, many) is) tt)
  ]

  module _ (old_beyond beyond : K → Bool) (old new : K → Option X) (x : FinMap R X) (was : IsResult old_beyond old x) (p : Outcome R X) (is : IsOutcome beyond new p) (es ks : List K) (same : IsSameElsewhere R old_beyond beyond es old new ks) where
    unlisted_in_range : (k : K) → is_listed R es k ≡ false → beyond k ≡ false
    unlisted_in_range k h = same.evaluations k h ∙ was.in_range k

    -- a draft in which no evaluation is out of range has each change
    LeadsAt-drafted : (d : DeltaOf R X) → ((k : K) → beyond k ≡ false) → ((k : K) → LeadsAt (get d k) (old k) (cond (is_listed R ks k) (new k) (old k))) → (k : K) → LeadsAt (get d k) (get x k) (new k)
    LeadsAt-drafted d within h k = subst (λ (v : Option X). LeadsAt (get d k) v (new k)) (sym (was.values k)) (elim (cases_Bool (is_listed R ks k)) [
      | inl yes' ↦ subst (λ (b : Bool). LeadsAt (get d k) (old k) (cond b (new k) (old k))) yes' (h k)
      | inr no' ↦ subst (λ (v : Option X). LeadsAt (get d k) (old k) v) (sym (same.values within k no')) (subst (λ (b : Bool). LeadsAt (get d k) (old k) (cond b (new k) (old k))) no' (h k))
    ])

    IsRight-drafted : (before : ℕ) → len x ≡ before → (d : DeltaOf R X) → ((k : K) → beyond k ≡ false) → ((k : K) → LeadsAt (get d k) (old k) (cond (is_listed R ks k) (new k) (old k))) → IsRight p x (settled None (count_after before d) d)
    IsRight-drafted before count d within h =
        let at = LeadsAt-drafted d within h in
        let after' : (k : K) → get (apply d x) k ≡ new k = λ k. get-apply o exact d x k ∙ LeadsAt-after (get d k) (get x k) (new k) (at k) in
        let leads : Leads d x (apply d x) = Leads-by_key o exact d x (apply d x) (λ k. subst (λ (v : Option X). LeadsAt (get d k) (get x k) v) (sym (after' k)) (at k)) in
        IsRight-counted beyond new x p d (count_after before d) leads (sym (len-apply-count o exact d x before leads.begins count)) record { in_range = within; values = after' } is

    IsRight-settled : (before : ℕ) → len x ≡ before → (d : DeltaOf R X) (r : Option K) → IsLeastListed R beyond es r → (r ≡ None → (k : K) → LeadsAt (get d k) (old k) (cond (is_listed R ks k) (new k) (old k))) → IsRight p x (settled r (count_after before d) d)
    IsRight-settled before count d None h g = IsRight-drafted before count d (none_passes-listed o exact beyond es unlisted_in_range h) (g refl)
    IsRight-settled before count d (Some k) h g = subst (λ (q : Outcome R X). IsRight q x (Range k)) (IsOutcome-unique o exact beyond new (range_at k) p (IsLeast-listed o exact beyond es k unlisted_in_range h) is) refl

    -- a draft that has all that changed ends in the right answer
    pub IsRight-finished : (before : ℕ) (n : Draft R X) → len x ≡ before → IsDraft beyond es old new ks n → IsRight p x (finished before n)
    IsRight-finished before n count h = IsRight-settled before count n.changes n.beyond h.least h.changes

  -- an operator's rule: its draft ends in the right answer, where its outcome on the old operands is x
  pub IsRight-outcome : (at_keys : List K) (old_beyond : K → Bool) (old_keys : List K) (old : K → Option X) (new_at_keys : List K) (beyond : K → Bool) (keys : List K) (new : K → Option X) (x : FinMap R X) (es ks : List K) (n : Draft R X)
      → Covers R at_keys old_beyond old_keys old → Covers R new_at_keys beyond keys new → outcome at_keys old_beyond old_keys old ≡ made x
      → IsSameElsewhere R old_beyond beyond es old new ks → IsDraft beyond es old new ks n → IsRight (outcome new_at_keys beyond keys new) x (finished (len x) n)
  IsRight-outcome at_keys old_beyond old_keys old new_at_keys beyond keys new x es ks n covers new_covers was same h =
      let result : IsOutcome old_beyond old (made x) = subst (λ (p : Outcome R X). IsOutcome old_beyond old p) was (outcome-is o exact at_keys old_beyond old_keys old covers) in
      IsRight-finished old_beyond beyond old new x result.0 (outcome new_at_keys beyond keys new) (outcome-is o exact new_at_keys beyond keys new new_covers) es ks same (len x) n refl h

  -- there is a right answer
  pub IsRight-right_answer : (same : X → X → Bool) → IsEqualityTest same → (p : Outcome R X) (x : FinMap R X) → IsRight p x (right_answer same p x)
  IsRight-right_answer same t (Made y) x = Leads-delta_between o exact same t x y
  IsRight-right_answer same t (Range k) x = refl
  IsRight-right_answer same t TooMany x = tt

  -- and no other
  pub IsRight-unique : (p : Outcome R X) (x : FinMap R X) (a b : Answer K (DeltaOf R X)) → IsRight p x a → IsRight p x b → a ≡ b
  IsRight-unique (Made y) x (Made d) (Made e) h g = ap Made (Leads-unique o exact d e x y h g)
  IsRight-unique (Range k) x (Range i) (Range j) h g = ap Range (h ∙ sym g)
  IsRight-unique TooMany x TooMany TooMany h g = refl
  IsRight-unique (Made y) x (Made d) (Range j) h g = absurd g
  IsRight-unique (Made y) x (Made d) TooMany h g = absurd g
  IsRight-unique (Range k) x (Range i) (Made e) h g = absurd g
  IsRight-unique (Range k) x (Range i) TooMany h g = absurd g
  IsRight-unique TooMany x TooMany (Made e) h g = absurd g
  IsRight-unique TooMany x TooMany (Range j) h g = absurd g
  IsRight-unique (Made y) x (Range i) b h g = absurd h
  IsRight-unique (Made y) x TooMany b h g = absurd h
  IsRight-unique (Range k) x (Made d) b h g = absurd h
  IsRight-unique (Range k) x TooMany b h g = absurd h
  IsRight-unique TooMany x (Made d) b h g = absurd h
  IsRight-unique TooMany x (Range i) b h g = absurd h
