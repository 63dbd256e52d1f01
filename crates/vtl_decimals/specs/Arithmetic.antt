-- Arithmetic on numbers, each a whole number of millionths (docs/language.md, "Scalar operators").
use Rattle.std.specs.Prelude.{◌≡◌, ℕ, zero, suc, ◌+◌, ◌*◌, ◌/◌, ◌^◌, ◌<◌, ◌≤◌, ℤ, pos, negsuc, ◌+ℤ◌, ◌-ℤ◌, ◌*ℤ◌, neg_ℤ, nat_abs, int_div, nat_le, Option, Some, None, if◌then◌else◌}
use Rattle.std.specs.Option.{option_map}
use Rattle.vtl_values.specs.Ranges.{MOST_MILLIONTHS}

-- one, in millionths
abbrev pub ONE : ℕ
ONE = 10 ^ 6

-- the number of so many millionths, or none where that is out of range
unfoldable pub number_of : ℤ → Option ℤ
number_of z = if nat_le (nat_abs z) MOST_MILLIONTHS then Some z else None

-- a size under the sign of a
abbrev pub with_sign_of : ℤ → ℕ → ℤ
with_sign_of (pos a) size = pos size
with_sign_of (negsuc a) size = neg_ℤ (pos size)

-- size / by to the nearest whole number, a half upwards
abbrev pub nearest : ℕ → ℕ → ℕ
nearest size by = (2 * size + by) / (2 * by)

-- a / b to the nearest whole number, a half away from zero, for b > 0
abbrev pub rounded : ℤ → ℕ → ℤ
rounded a b = with_sign_of a (nearest (nat_abs a) b)

-- a / b to the nearest whole number, a half away from zero; for b < 0 both signs are turned first
unfoldable pub rounded_quotient : ℤ → ℤ → ℤ
rounded_quotient a (pos b) = rounded a b
rounded_quotient a (negsuc b) = rounded (neg_ℤ a) (suc b)

-- q is nearest to a / b: at most a half away, and where two are a half away, the one further from zero
pub record IsNearest (a b q : ℤ) : Type 0 where
  pub near : 2 * nat_abs (q *ℤ b -ℤ a) ≤ nat_abs b
  pub away : 2 * nat_abs (q *ℤ b -ℤ a) ≡ nat_abs b → nat_abs a < nat_abs (q *ℤ b)

-- a / b rounded down, for b > 0
abbrev pub floored : ℤ → ℕ → ℤ
floored (pos a) b = pos (a / b)
floored (negsuc a) b = negsuc (a / b)

-- a / b rounded down; for b < 0 both signs are turned first
unfoldable pub floor_quotient : ℤ → ℤ → ℤ
floor_quotient a (pos b) = floored a b
floor_quotient a (negsuc b) = floored (neg_ℤ a) (suc b)

-- a + b, none where out of range (VTL 2.0 Reference Manual, operator +)
abbrev pub sum_of : ℤ → ℤ → Option ℤ
sum_of a b = number_of (a +ℤ b)

-- a - b, none where out of range (VTL 2.0 Reference Manual, operator -)
abbrev pub difference_of : ℤ → ℤ → Option ℤ
difference_of a b = number_of (a -ℤ b)

-- a * b rounded once, none where out of range (VTL 2.0 Reference Manual, operator *)
abbrev pub product_of : ℤ → ℤ → Option ℤ
product_of a b = number_of (rounded_quotient (a *ℤ b) (pos ONE))

-- a / b rounded once, none where out of range, and no number for b = 0 (VTL 2.0 Reference Manual, operator /)
abbrev pub quotient_of : ℤ → ℤ → Option (Option ℤ)
quotient_of a (pos zero) = Some None
quotient_of a b = option_map Some (number_of (rounded_quotient (a *ℤ pos ONE) b))

-- the mean of so many numbers of this sum, rounded once (VTL 2.0 Reference Manual, operator avg)
abbrev pub mean_of : ℤ → ℕ → ℤ
mean_of sum count = rounded_quotient sum (pos count)

-- x less y times the floor of x / y; x for y = 0 (VTL 2.0 Reference Manual, operator mod)
abbrev pub remainder_of : ℤ → ℤ → ℤ
remainder_of x (pos zero) = x
remainder_of x y = x -ℤ y *ℤ floor_quotient x y

-- the place of a digit, in millionths: 1 for the sixth after the point
abbrev pub unit_of : ℤ → ℕ
unit_of digits = 10 ^ nat_abs (pos 6 -ℤ digits)

-- to so many digits, a half away from zero (VTL 2.0 Reference Manual, operator round)
abbrev pub rounding_of : ℤ → ℤ → ℤ
rounding_of a digits = rounded_quotient a (pos (unit_of digits)) *ℤ pos (unit_of digits)

-- to so many digits, towards zero (VTL 2.0 Reference Manual, operator trunc)
abbrev pub truncation_of : ℤ → ℤ → ℤ
truncation_of a digits = int_div a (pos (unit_of digits)) *ℤ pos (unit_of digits)

-- rounded down to a whole number (VTL 2.0 Reference Manual, operator floor)
abbrev pub floor_of : ℤ → ℤ
floor_of a = floor_quotient a (pos ONE) *ℤ pos ONE

-- rounded up to a whole number (VTL 2.0 Reference Manual, operator ceil)
abbrev pub ceiling_of : ℤ → ℤ
ceiling_of a = neg_ℤ (floor_of (neg_ℤ a))
