-- Places in a list.
use Rattle.std.proofs.Common.{◌≡◌, ℕ, suc, ◌+◌, List, ◌∷◌, length, Bool, true, false, not, cond, Some, None, option_map, nat_lt, refl, ap, ◌∙◌, arith}
use Rattle.std.specs.List.{position, position_or_len}
use Rattle.std.proofs.lemmas.Bool.Decides.{nat_tests}

-- what passes first is the first one, or comes one later than among the others
pub position-cons : {A : Type 0} (p : A → Bool) (x : A) (xs : List A) → position p (x ∷ xs) ≡ cond (p x) (Some 0) (option_map (λ i. i + 1) (position p xs))
position-cons p x xs = by_test (p x)
  where
    next : (b : Bool) (n : ℕ) → cond b (Some (1 + n)) None ≡ option_map (λ i. i + 1) (cond b (Some n) None)
    next true n = ap Some (omega arith)
    next false n = refl

    later : (n m : ℕ) → nat_lt (1 + n) (suc m) ≡ nat_lt n m
    later n m = grind (arith, nat_tests)

    first : (m : ℕ) → nat_lt 0 (suc m) ≡ true
    first m = grind (arith, nat_tests)

    by_test : (b : Bool) → cond (nat_lt (cond (not b) (1 + position_or_len p xs) 0) (suc (length xs))) (Some (cond (not b) (1 + position_or_len p xs) 0)) None ≡ cond b (Some 0) (option_map (λ i. i + 1) (position p xs))
    by_test true = ap (λ b. cond b (Some 0) None) (first (length xs))
    by_test false = ap (λ b. cond b (Some (1 + position_or_len p xs)) None) (later (position_or_len p xs) (length xs)) ∙ next (nat_lt (position_or_len p xs) (length xs)) (position_or_len p xs)
