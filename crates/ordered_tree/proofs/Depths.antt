-- How long descents are.
use Rattle.std.proofs.Common.{◌≡◌, ℕ, ◌+◌, ◌*◌, ◌^◌, ◌≤◌, suc, List, [], ◌∷◌, length, arith}
use Rattle.std.proofs.Math.Nat.{pow-suc, mul-le-mul_left, mul_left_comm, mul_assoc}
use Rattle.ordered_tree.specs.Balance.{Balanced, IsSide, IsDescent}

level : (a b w v : ℕ) → a ≤ b * w → 4 * w ≤ 3 * v → a * 4 ≤ b * 3 * v
level a b w v h k = omega (arith, mul-le-mul_left b k, mul_left_comm b 4 w, mul_assoc b 3 v)

-- one step more, to a side with the weight w
deeper : (d w v : ℕ) → 4 ^ d ≤ 3 ^ d * w → 4 * w ≤ 3 * v → 4 ^ suc d ≤ 3 ^ suc d * v
deeper d w v h k = rw (pow-suc 4 d, pow-suc 3 d) (level (4 ^ d) (3 ^ d) w v h k)

lighter : (n m : ℕ) → IsSide n m → 4 * (m + 1) ≤ 3 * (n + 1)
lighter n m s = let e : n ≡ m + s.0 + 1 = s.1 in let b : Balanced m s.0 = s.2 in omega (arith, b.1)

pub descent-length : (n : ℕ) (sizes : List ℕ) → IsDescent n sizes → 4 ^ length sizes ≤ 3 ^ length sizes * (n + 1)
descent-length n [] h = omega arith
descent-length n (m ∷ sizes) h = deeper (length sizes) (m + 1) (n + 1) (descent-length m sizes h.1) (lighter n m h.0)
