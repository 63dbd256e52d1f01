-- Places that a walk down a tree finds in a list whose keys ascend.
use Rattle.std.proofs.Common.{◌≡◌, ◌≢◌, ℕ, zero, suc, ◌+◌, ◌<◌, ◌≤◌, List, [], ◌∷◌, map, Some, Bool, true, false, cond, T, sym, ◌∙◌, ap, refl, length, get_or, arith}
use Rattle.std.specs.Option.{option_map}
use Rattle.std.specs.List.{slice_get, prefix_len}
use Rattle.std.specs.List.Sorted.{IsPartitionPoint}
use Rattle.std.specs.declared.cmp.Ordering.{Ordering}
use Rattle.std.specs.declared.cmp.Ordering.TheVariants.{Less, Equal, Greater}
use Rattle.std.specs.Ordering.{is_lt, is_le, ordering_reverse}
use Rattle.std.specs.Cmp.{IsTotalOrder}
use Rattle.std.specs.FinMap.{IsAntisymmetric, is_sorted}
use Rattle.std.specs.FinMap.Entries.{below_all}
use Rattle.ordered_tree.specs.Lists.{NonePass, Parted}
use Rattle.point_sets.specs.Places.{above}
use Rattle.point_sets.proofs.Ordered.{first, second, less}

up : (n : ℕ) → 1 + n ≡ suc n
up n = omega arith

module _ {K X P : Type 0} {R : K → K → Ordering} (o : IsTotalOrder R) (f : P → K × X) where
  -- a test that fails at a key fails above it
  abbrev pub Falls : (K → Bool) → Type 0
  Falls t = (x y : K) → R x y ≡ Less → t x ≡ false → t y ≡ false

  none_above : (t : K → Bool) → Falls t → (x : K) (ps : List P) → t x ≡ false → T (below_all R x (map f ps)) → NonePass (λ p. t (f p).0) ps
  none_above t falls x [] e h = tt
  none_above t falls x (p ∷ ps) e h = (falls x (f p).0 (less _ (first _ _ h)) e, none_above t falls x ps e (second _ _ h))

  -- so it parts a list whose keys ascend
  pub parted_by : (t : K → Bool) → Falls t → (ps : List P) → T (is_sorted R (map f ps)) → Parted (λ p. t (f p).0) ps
  parted_by t falls [] s = tt
  parted_by t falls (p ∷ ps) s = ((λ e. parted_by t falls ps (second _ _ s)), (λ e. none_above t falls (f p).0 ps e (first _ _ s)))

  below_falls : (k : K) (x y : K) → R x y ≡ Less → (r : Ordering) → R y k ≡ r → is_lt (R x k) ≡ false → is_lt r ≡ false
  below_falls k x y l Less e n = let under : R x k ≡ Less = o.trans x y k l e in let no : true ≡ false = rw under at n in cc no
  below_falls k x y l Equal e n = refl
  below_falls k x y l Greater e n = refl

  pub Falls-below : (k : K) → Falls (λ x. is_lt (R x k))
  Falls-below k x y l n = below_falls k x y l (R y k) refl n

  turned : (j k : K) (r : Ordering) → R j k ≡ r → R k j ≡ ordering_reverse r
  turned j k r e = o.antisymm k j ∙ ap ordering_reverse e

  -- what is above x is above what x ties with, and what x is above
  under : (k x y : K) → R x y ≡ Less → R y k ≡ Equal → R x k ≡ Less
  under k x y l e = let back : R k x ≡ Greater = sym (o.congr y k x e) ∙ turned x y Less l in turned k x Greater back

  up_to_falls : (k : K) (x y : K) → R x y ≡ Less → (r : Ordering) → R y k ≡ r → is_le (R x k) ≡ false → is_le r ≡ false
  up_to_falls k x y l Less e n = let no : true ≡ false = let u : R x k ≡ Less = o.trans x y k l e in rw u at n in cc no
  up_to_falls k x y l Equal e n = let no : true ≡ false = let u : R x k ≡ Less = under k x y l e in rw u at n in cc no
  up_to_falls k x y l Greater e n = refl

  pub Falls-up_to : (k : K) → Falls (λ x. is_le (R x k))
  Falls-up_to k x y l n = up_to_falls k x y l (R y k) refl n

  over : (k x y : K) → R x y ≡ Less → R x k ≡ Greater → R y k ≡ Greater
  over k x y l g = turned k y Less (o.trans k x y (turned x k Greater g) l)

  each_over : (k x : K) (ps : List P) (j : ℕ) (d : P) → R x k ≡ Greater → T (below_all R x (map f ps)) → j < length ps → R (f (get_or ps j d)).0 k ≡ Greater
  each_over k x [] j d g h lt = absurd (omega arith)
  each_over k x (p ∷ ps) zero d g h lt = over k x (f p).0 (less _ (first _ _ h)) g
  each_over k x (p ∷ ps) (suc j) d g h lt = each_over k x ps j d g (second _ _ h) (omega arith)

  abbrev Parts : K → List P → ℕ → Type 0
  Parts k ps n = IsPartitionPoint (λ p. R (f p).0 k ≡ Less) (λ p. R (f p).0 k ≡ Greater) ps n

  parts_later : (p : P) (ps : List P) (k : K) → R (f p).0 k ≡ Less → (n : ℕ) → Parts k ps n → Parts k (p ∷ ps) (1 + n)
  parts_later p ps k e n h = (front, back) where
    front : (j : ℕ) (d : P) → 0 ≤ j → j < 1 + n → R (f (get_or (p ∷ ps) j d)).0 k ≡ Less
    front zero d a b = e
    front (suc j) d a b = h.0 j d (omega arith) (omega arith)

    back : (j : ℕ) (d : P) → 1 + n ≤ j → j < length (p ∷ ps) → R (f (get_or (p ∷ ps) j d)).0 k ≡ Greater
    back zero d a b = absurd (omega arith)
    back (suc j) d a b = h.1 j d (omega arith) (omega arith)

  parts_first : (p : P) (ps : List P) (k : K) → R (f p).0 k ≡ Greater → T (below_all R (f p).0 (map f ps)) → (j : ℕ) (d : P) → j < length (p ∷ ps) → R (f (get_or (p ∷ ps) j d)).0 k ≡ Greater
  parts_first p ps k e h zero d b = e
  parts_first p ps k e h (suc j) d b = each_over k (f p).0 ps j d e h (omega arith)

  -- a place with another key parts the keys below from those above
  pub parts_at : IsAntisymmetric R → (k : K) (ps : List P) → T (is_sorted R (map f ps)) → option_map (λ p. (f p).0) (slice_get ps (prefix_len (λ p. is_lt (R (f p).0 k)) ps)) ≢ Some k → Parts k ps (prefix_len (λ p. is_lt (R (f p).0 k)) ps)
  parts_at exact k [] s n = ((λ j d a b. absurd (omega arith)), (λ j d a b. absurd (omega arith)))
  parts_at exact k (p ∷ ps) s n = elim (R (f p).0 k) as (λ r. R (f p).0 k ≡ r → option_map (λ q. (f q).0) (slice_get (p ∷ ps) (cond (is_lt r) (1 + prefix_len (λ q. is_lt (R (f q).0 k)) ps) 0)) ≢ Some k → Parts k (p ∷ ps) (cond (is_lt r) (1 + prefix_len (λ q. is_lt (R (f q).0 k)) ps) 0)) [
    | Less ↦ λ e n. parts_later p ps k e (prefix_len (λ q. is_lt (R (f q).0 k)) ps) (parts_at exact k ps (second _ _ s) (rw up at n))
    | Equal ↦ λ e n. absurd (n (ap Some (exact (f p).0 k e)))
    | Greater ↦ λ e n. ((λ j d a b. absurd (omega arith)), (λ j d a b. parts_first p ps k e (first _ _ s) j d b))
  ] refl n

  -- the first of those above a key stands after those up to it
  pub first_above : (k : K) (ps : List P) → option_map f (slice_get ps (prefix_len (λ p. is_le (R (f p).0 k)) ps)) ≡ slice_get (above R k (map f ps)) 0
  first_above k [] = refl
  first_above k (p ∷ ps) = elim (R (f p).0 k) as (λ r. R (f p).0 k ≡ r → option_map f (slice_get (p ∷ ps) (cond (is_le r) (1 + prefix_len (λ q. is_le (R (f q).0 k)) ps) 0)) ≡ slice_get (above R k (f p ∷ map f ps)) 0) [
    | Less ↦ λ e. let g : R k (f p).0 ≡ Greater = turned (f p).0 k Less e in rw (up, g) (first_above k ps)
    | Equal ↦ λ e. let g : R k (f p).0 ≡ Equal = turned (f p).0 k Equal e in rw (up, g) (first_above k ps)
    | Greater ↦ λ e. let g : R k (f p).0 ≡ Less = turned (f p).0 k Greater e in rw g refl
  ] refl
