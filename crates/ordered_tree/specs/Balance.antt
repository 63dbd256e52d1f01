-- Sizes of the sides of a fork.
use Rattle.std.specs.Prelude.{◌≡◌, ℕ, ◌+◌, ◌*◌, ◌≤◌, ◌<◌, List, [], ◌∷◌}

-- neither side has more than three times the other's weight, which is its size and one more
abbrev pub Balanced : ℕ → ℕ → Type 0
Balanced l r = (l + 1 ≤ 3 * (r + 1)) × (r + 1 ≤ 3 * (l + 1))

-- so it was before a side had one more or one less
abbrev pub NearlyBalanced : ℕ → ℕ → Type 0
NearlyBalanced l r = (l + 1 ≤ 3 * (r + 1) + 3) × (r + 1 ≤ 3 * (l + 1) + 3)

-- the far side and its neighbour in a heavy side: the neighbour has at least twice the weight of the other one there,
-- these two are balanced, and together they are too heavy for the near side by no more than one item
abbrev pub DoubleTurns : ℕ → ℕ → ℕ → Type 0
DoubleTurns near middle far =
    (2 * (far + 1) ≤ middle + 1) × (middle + 1 ≤ 3 * (far + 1))
    × (3 * (near + 1) < middle + 1 + (far + 1)) × (middle + 1 + (far + 1) ≤ 3 * (near + 1) + 3)

-- a fork of n items can have a side of m, the other side having the others
abbrev pub IsSide : ℕ → ℕ → Type 0
IsSide n m = (other : ℕ) × (n ≡ m + other + 1) × Balanced m other

-- the sizes of what is met on a way down from n items
abbrev pub IsDescent : ℕ → List ℕ → Type 0
IsDescent n [] = Unit {0}
IsDescent n (m ∷ sizes) = IsSide n m × IsDescent m sizes
