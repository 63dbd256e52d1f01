-- How far integers and numbers go (docs/language.md, "Values").
use Rattle.std.specs.Prelude.{ℕ, ◌^◌, ◌≤◌, ℤ, nat_abs}

-- the largest integer
abbrev pub MOST_INTEGER : ℕ
MOST_INTEGER = 10 ^ 15

-- the largest number, in millionths
abbrev pub MOST_MILLIONTHS : ℕ
MOST_MILLIONTHS = 10 ^ 21

-- an integer is at most 10^15 either way
abbrev pub IsInteger : ℤ → Type 0
IsInteger z = nat_abs z ≤ MOST_INTEGER

-- a number is at most 10^21 millionths either way
abbrev pub IsNumber : ℤ → Type 0
IsNumber z = nat_abs z ≤ MOST_MILLIONTHS
