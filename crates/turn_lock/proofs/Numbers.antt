-- Sums over all views, and the places of a number.
use Rattle.std.proofs.Common.{◌≡◌, ◌≢◌, ℕ, zero, suc, ◌+◌, ◌≤◌, List, [], ◌∷◌, set, refl, sym, ap, arith, sum_by}
use Rattle.std.proofs.lemmas.List.Sums.{sum_by-cons}
use mathlib.Core.Option.{some, some-injective, some-ne-none}
use lib.ListN.{get_elem?}

module _ {A : Type 0} (f : A → ℕ) where
  pub sum_by-at : (xs : List A) (i : ℕ) (x : A) → get_elem? xs i ≡ some x → f x ≤ sum_by f xs
  sum_by-at [] i x e = absurd (some-ne-none x (sym e))
  sum_by-at (y ∷ xs) zero x e =
      let same : f y ≡ f x = ap f (some-injective y x e) in
      omega (arith, sum_by-cons f y xs)
  sum_by-at (y ∷ xs) (suc i) x e = omega (arith, sum_by-cons f y xs, sum_by-at xs i x e)

  -- two places count for two
  pub sum_by-two : (xs : List A) (i j : ℕ) (x z : A) → i ≢ j → get_elem? xs i ≡ some x → get_elem? xs j ≡ some z → f x + f z ≤ sum_by f xs
  sum_by-two [] i j x z n e d = absurd (some-ne-none x (sym e))
  sum_by-two (y ∷ xs) zero zero x z n e d = absurd (n refl)
  sum_by-two (y ∷ xs) zero (suc j) x z n e d =
      let same : f y ≡ f x = ap f (some-injective y x e) in
      omega (arith, sum_by-cons f y xs, sum_by-at xs j z d)
  sum_by-two (y ∷ xs) (suc i) zero x z n e d =
      let same : f y ≡ f z = ap f (some-injective y z d) in
      omega (arith, sum_by-cons f y xs, sum_by-at xs i x e)
  sum_by-two (y ∷ xs) (suc i) (suc j) x z n e d = omega (arith, sum_by-cons f y xs, sum_by-two xs i j x z (λ h. n (ap suc h)) e d)

  pub sum_by-put : (xs : List A) (i : ℕ) (x z : A) → get_elem? xs i ≡ some x → sum_by f (set xs i z) + f x ≡ sum_by f xs + f z
  sum_by-put [] i x z e = absurd (some-ne-none x (sym e))
  sum_by-put (y ∷ xs) zero x z e =
      let same : f y ≡ f x = ap f (some-injective y x e) in
      omega (arith, sum_by-cons f y xs, sum_by-cons f z xs)
  sum_by-put (y ∷ xs) (suc i) x z e = omega (arith, sum_by-cons f y xs, sum_by-cons f y (set xs i z), sum_by-put xs i x z e)
