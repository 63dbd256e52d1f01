-- Lists whose entries ascend: what is found in them, and where an entry goes.
use Rattle.std.proofs.Common.{◌≡◌, ℕ, ◌<◌, ◌≤◌, zero, suc, List, [], ◌∷◌, map, Some, None, Bool, true, false, cond, T, ◌&&◌, sym, ◌∙◌, ap, refl, subst, arith, length, set, get_or, inl, inr}
use Rattle.std.proofs.lemmas.Bool.{cases_lt, cases_Bool}
use Rattle.std.proofs.lemmas.Option.{slice_get-get_or}
use Rattle.std.specs.List.{slice_get, insert as list_insert, remove as list_remove}
use Rattle.std.specs.List.Sorted.{IsPartitionPoint, IsNonDecreasingBy}
use Rattle.std.specs.declared.cmp.Ordering.{Ordering}
use Rattle.std.specs.declared.cmp.Ordering.TheVariants.{Less, Equal, Greater}
use Rattle.std.specs.Ordering.{is_lt, is_eq, eq_by_cmp, ordering_reverse, ordering_index}
use Rattle.std.specs.Cmp.{IsTotalOrder, tied_itself}
use Rattle.std.specs.FinMap.{IsAntisymmetric, find, put, is_sorted}
use Rattle.std.specs.FinMap.Entries.{below_all}
use Rattle.data_model.proofs.EntryLemmas.{find-below_all}

pub first : (a b : Bool) → T (a && b) → T a
first true b p = tt
first false b p = absurd p

pub second : (a b : Bool) → T (a && b) → T b
second true b p = p
second false b p = absurd p

pub less : (r : Ordering) → T (is_lt r) → r ≡ Less
less Less h = refl
less Equal h = absurd h
less Greater h = absurd h

tied : (r : Ordering) → is_eq r ≡ true → r ≡ Equal
tied Less e = cc
tied Equal e = refl
tied Greater e = cc

pub both : (a b : Bool) → T a → T b → T (a && b)
both true b p q = q
both false b p q = p

-- what ties with a key is below what the key is below
pub below_as : {K X : Type 0} (R : K → K → Ordering) → IsTotalOrder R → (q k : K) (es : List (K × X)) → R q k ≡ Equal → T (below_all R k es) → T (below_all R q es)
below_as R o q k [] e h = tt
below_as R o q k (f ∷ fs) e h = both _ _ (subst (λ (r : Ordering). T (is_lt r)) (sym (o.congr q k f.0 e)) (first _ _ h)) (below_as R o q k fs e (second _ _ h))

module _ {K X P : Type 0} {R : K → K → Ordering} (o : IsTotalOrder R) (same : IsAntisymmetric R) (f : P → K × X) where
  -- the keys of a list that ascends are above those before
  below_at : (x : K) (ps : List P) (i : ℕ) (p : P) → T (below_all R x (map f ps)) → slice_get ps i ≡ Some p → R x (f p).0 ≡ Less
  below_at x [] i p h e = cc
  below_at x (q ∷ ps) zero p h e = let at : q ≡ p = cc in subst (λ (t : P). R x (f t).0 ≡ Less) at (less _ (first _ _ h))
  below_at x (q ∷ ps) (suc i) p h e = below_at x ps i p (second _ _ h) e

  turned : (j k : K) (r : Ordering) → R j k ≡ r → R k j ≡ ordering_reverse r
  turned j k r e = o.antisymm k j ∙ ap ordering_reverse e

  -- what stands at a place is found
  pub find_at : (ps : List P) (i : ℕ) (p : P) → T (is_sorted R (map f ps)) → slice_get ps i ≡ Some p → find R (f p).0 (map f ps) ≡ Some (f p).1
  find_at [] i p s e = cc
  find_at (q ∷ ps) zero p s e =
      let at : q ≡ p = cc in
      let itself : R (f q).0 (f q).0 ≡ Equal = tied_itself o (f q).0 in
      subst (λ (t : P). find R (f t).0 (map f (q ∷ ps)) ≡ Some (f t).1) at (rw itself refl)
  find_at (q ∷ ps) (suc i) p s e =
      let above : R (f p).0 (f q).0 ≡ Greater = turned (f q).0 (f p).0 Less (below_at (f q).0 ps i p (first _ _ s) e) in
      rw above (find_at ps i p (second _ _ s) e)

  -- nothing is found where the keys are below, and then above
  pub find_gap : (k : K) (ps : List P) (i : ℕ) → IsPartitionPoint (λ p. R (f p).0 k ≡ Less) (λ p. R (f p).0 k ≡ Greater) ps i → find R k (map f ps) ≡ None
  find_gap k [] i h = refl
  find_gap k (q ∷ ps) zero h =
      let here : R k (f q).0 ≡ Less = turned (f q).0 k Greater (h.1 0 q (omega arith) (omega arith)) in
      rw here (find_gap k ps zero ((λ j d a b. absurd (omega arith)), λ j d a b. h.1 (suc j) d (omega arith) (omega arith)))
  find_gap k (q ∷ ps) (suc i) h =
      let here : R k (f q).0 ≡ Greater = turned (f q).0 k Less (h.0 0 q (omega arith) (omega arith)) in
      rw here (find_gap k ps i ((λ j d a b. h.0 (suc j) d (omega arith) (omega arith)), λ j d a b. h.1 (suc j) d (omega arith) (omega arith)))

  -- an entry over the one of its key
  pub put_over : (ps : List P) (i : ℕ) (p q : P) → T (is_sorted R (map f ps)) → slice_get ps i ≡ Some q → (f q).0 ≡ (f p).0 → put R (f p).0 (f p).1 (map f ps) ≡ map f (set ps i p)
  put_over [] i p q s e k = cc
  put_over (r ∷ ps) zero p q s e k =
      let at : r ≡ q = cc in
      let key : (f r).0 ≡ (f p).0 = ap (λ (t : P). (f t).0) at ∙ k in
      let tied : R (f p).0 (f r).0 ≡ Equal = ap (R (f p).0) key ∙ tied_itself o (f p).0 in
      rw tied (ap (λ (t : K). (t, (f p).1) ∷ map f ps) key)
  put_over (r ∷ ps) (suc i) p q s e k =
      let below : R (f r).0 (f p).0 ≡ Less = subst (λ (t : K). R (f r).0 t ≡ Less) k (below_at (f r).0 ps i q (first _ _ s) e) in
      let above : R (f p).0 (f r).0 ≡ Greater = turned (f r).0 (f p).0 Less below in
      rw above (ap (λ (t : List (K × X)). f r ∷ t) (put_over ps i p q (second _ _ s) e k))

  -- an entry whose key is new
  pub put_gap : (ps : List P) (i : ℕ) (p : P) → i ≤ length ps → IsPartitionPoint (λ q. R (f q).0 (f p).0 ≡ Less) (λ q. R (f q).0 (f p).0 ≡ Greater) ps i → put R (f p).0 (f p).1 (map f ps) ≡ map f (list_insert ps i p)
  put_gap [] zero p l h = refl
  put_gap [] (suc i) p l h = absurd (omega arith)
  put_gap (q ∷ ps) zero p l h =
      let here : R (f p).0 (f q).0 ≡ Less = turned (f q).0 (f p).0 Greater (h.1 0 q (omega arith) (omega arith)) in
      rw here refl
  put_gap (q ∷ ps) (suc i) p l h =
      let here : R (f p).0 (f q).0 ≡ Greater = turned (f q).0 (f p).0 Less (h.0 0 q (omega arith) (omega arith)) in
      rw here (ap (λ (t : List (K × X)). f q ∷ t) (put_gap ps i p (omega arith) ((λ j d a b. h.0 (suc j) d (omega arith) (omega arith)), λ j d a b. h.1 (suc j) d (omega arith) (omega arith))))

  below_all-removed : (x : K) (ps : List P) (i : ℕ) → T (below_all R x (map f ps)) → T (below_all R x (map f (list_remove ps i)))
  below_all-removed x [] zero h = tt
  below_all-removed x [] (suc i) h = tt
  below_all-removed x (q ∷ ps) zero h = second _ _ h
  below_all-removed x (q ∷ ps) (suc i) h = both _ _ (first _ _ h) (below_all-removed x ps i (second _ _ h))

  -- without the entry at a place the list still ascends
  pub is_sorted-removed : (ps : List P) (i : ℕ) → T (is_sorted R (map f ps)) → T (is_sorted R (map f (list_remove ps i)))
  is_sorted-removed [] zero s = tt
  is_sorted-removed [] (suc i) s = tt
  is_sorted-removed (q ∷ ps) zero s = second _ _ s
  is_sorted-removed (q ∷ ps) (suc i) s = both _ _ (below_all-removed (f q).0 ps i (first _ _ s)) (is_sorted-removed ps i (second _ _ s))

  unlike : (q x y : K) → R x y ≡ Less → eq_by_cmp R q x ≡ true → eq_by_cmp R q y ≡ false
  unlike q x y l e = let tie : q ≡ x = same q x (tied (R q x) e) in rw (tie, l) refl

  -- and it has what it had, but at that key nothing
  pub find_removed : (q : K) (ps : List P) (i : ℕ) (p : P) → T (is_sorted R (map f ps)) → slice_get ps i ≡ Some p → find R q (map f (list_remove ps i)) ≡ cond (eq_by_cmp R q (f p).0) None (find R q (map f ps))
  find_removed q [] i p s e = cc
  find_removed q (r ∷ ps) zero p s e =
      let at : r ≡ p = cc in
      subst (λ (t : P). find R q (map f ps) ≡ cond (eq_by_cmp R q (f t).0) None (find R q (map f (r ∷ ps)))) at
      (elim (cases_Bool (eq_by_cmp R q (f r).0)) [
        | inl t ↦ let none : find R q (map f ps) ≡ None = find-below_all R q (map f ps) (below_as R o q (f r).0 (map f ps) (tied (R q (f r).0) t) (first _ _ s)) in rw (t, none) refl
        | inr n ↦ rw n refl
      ])
  find_removed q (r ∷ ps) (suc i) p s e =
      let below : R (f r).0 (f p).0 ≡ Less = below_at (f r).0 ps i p (first _ _ s) e in
      elim (cases_Bool (eq_by_cmp R q (f r).0)) [
        | inl t ↦ let other = unlike q (f r).0 (f p).0 below t in rw (t, other) refl
        | inr n ↦ rw n (find_removed q ps i p (second _ _ s) e)
      ]

  -- each key is below those after it
  ascends : (ps : List P) (i j : ℕ) (d : P) → T (is_sorted R (map f ps)) → i < j → j < length ps → R (f (get_or ps i d)).0 (f (get_or ps j d)).0 ≡ Less
  ascends [] i j d s l b = absurd (omega arith)
  ascends (q ∷ ps) zero zero d s l b = absurd (omega arith)
  ascends (q ∷ ps) zero (suc j) d s l b = below_at (f q).0 ps j (get_or ps j d) (first _ _ s) (slice_get-get_or ps j d (omega arith))
  ascends (q ∷ ps) (suc i) zero d s l b = absurd (omega arith)
  ascends (q ∷ ps) (suc i) (suc j) d s l b = ascends ps i j d (second _ _ s) (omega arith) (omega arith)

  at_most : (r : Ordering) → ordering_index r ≤ 2
  at_most Less = omega arith
  at_most Equal = omega arith
  at_most Greater = omega arith

  rises_by : (a b k : K) → R a b ≡ Less → (r : Ordering) → R b k ≡ r → ordering_index (R a k) ≤ ordering_index r
  rises_by a b k l Less e = let below : R a k ≡ Less = o.trans a b k l e in rw below (omega arith)
  rises_by a b k l Equal e = let below : R a k ≡ Less = subst (λ t. R a t ≡ Less) (same b k e) l in rw below (omega arith)
  rises_by a b k l Greater e = at_most (R a k)

  -- comparisons with a key rise along a list that ascends
  pub comparisons_rise : (k : K) (ps : List P) → T (is_sorted R (map f ps)) → IsNonDecreasingBy (λ p. ordering_index (R (f p).0 k)) ps
  comparisons_rise k ps s i j d l b = elim (cases_lt i j) [
    | inl lt ↦ rises_by (f (get_or ps i d)).0 (f (get_or ps j d)).0 k (ascends ps i j d s lt b) (R (f (get_or ps j d)).0 k) refl
    | inr ge ↦ let e : i ≡ j = omega arith in subst (λ (t : ℕ). ordering_index (R (f (get_or ps i d)).0 k) ≤ ordering_index (R (f (get_or ps t d)).0 k)) e (omega arith)
  ]
