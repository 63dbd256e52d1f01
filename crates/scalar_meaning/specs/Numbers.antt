-- What operators on numbers give; a number is a whole count of millionths (docs/language.md, "Scalar operators").
use Rattle.std.specs.Prelude.{ℤ, pos, ◌+ℤ◌, ◌-ℤ◌, ◌*ℤ◌, neg_ℤ, nat_abs, nat_le, int_div, Option, Some, None, if◌then◌else◌}
use Rattle.std.specs.Option.{option_map}
use Rattle.vtl_values.specs.declared.value.Value.{Value}
use Rattle.vtl_values.specs.declared.value.Value.TheVariants.{Null, Integer, Number}
use Rattle.vtl_values.specs.Ranges.{MOST_INTEGER}
use Rattle.vtl_syntax.specs.declared.words.RoundFunction.{RoundFunction}
use Rattle.vtl_syntax.specs.declared.words.RoundFunction.TheVariants.{Round, Trunc}
use Rattle.vtl_decimals.specs.Arithmetic.{ONE, sum_of, difference_of, product_of, quotient_of, remainder_of, rounding_of, truncation_of, floor_of, ceiling_of}
use Rattle.scalar_trees.specs.WellTyped.{digits_fit}

-- the integer, or none where it is out of range
unfoldable pub integer_of : ℤ → Option ℤ
integer_of z = if nat_le (nat_abs z) MOST_INTEGER then Some z else None

-- what is made of an integer, or of a number; null of any other value
abbrev pub of_one : (ℤ → ℤ) → Value → Value
of_one f (Integer n) = Integer (f n)
of_one f (Number n) = Number (f n)
of_one f _ = Null

-- what is made of a number; null of any other value
abbrev pub of_number : (ℤ → Value) → Value → Value
of_number f (Number n) = f n
of_number f _ = Null

-- what is made of two integers, or of two numbers, none where out of range; null of any other values
abbrev pub of_two : (ℤ → ℤ → Option ℤ) → (ℤ → ℤ → Option ℤ) → Value → Value → Option Value
of_two f g (Integer a) (Integer b) = option_map Integer (f a b)
of_two f g (Number a) (Number b) = option_map Number (g a b)
of_two f g _ _ = Some Null

-- VTL 2.0 Reference Manual, unary + and -, abs
abbrev pub plus : Value → Value
plus v = of_one (λ n. n) v

abbrev pub minus : Value → Value
minus v = of_one neg_ℤ v

abbrev pub absolute : Value → Value
absolute v = of_one (λ n. pos (nat_abs n)) v

-- VTL 2.0 Reference Manual, + - *: exact, and a product of numbers rounded once
abbrev pub sum : Value → Value → Option Value
sum a b = of_two (λ x y. integer_of (x +ℤ y)) sum_of a b

abbrev pub difference : Value → Value → Option Value
difference a b = of_two (λ x y. integer_of (x -ℤ y)) difference_of a b

abbrev pub product : Value → Value → Option Value
product a b = of_two (λ x y. integer_of (x *ℤ y)) product_of a b

-- VTL 2.0 Reference Manual, mod: x - y * floor(x / y), and x for y = 0
abbrev pub modulus : Value → Value → Value
modulus (Integer a) (Integer b) = Integer (remainder_of a b)
modulus (Number a) (Number b) = Number (remainder_of a b)
modulus _ _ = Null

abbrev pub number_or_null : Option ℤ → Value
number_or_null (Some n) = Number n
number_or_null None = Null

-- VTL 2.0 Reference Manual, /: the exact quotient rounded once, and null for a zero divisor
abbrev pub quotient : Value → Value → Option Value
quotient (Number a) (Number b) = option_map number_or_null (quotient_of a b)
quotient _ _ = Some Null

-- a whole number, counted in millionths, counted in ones
abbrev pub in_ones : ℤ → ℤ
in_ones n = int_div n (pos ONE)

-- VTL 2.0 Reference Manual, ceil and floor
abbrev pub ceiling : Value → Value
ceiling v = of_number (λ n. Integer (in_ones (ceiling_of n))) v

abbrev pub floor : Value → Value
floor v = of_number (λ n. Integer (in_ones (floor_of n))) v

-- to so many digits
abbrev pub to_digits : RoundFunction → ℤ → ℤ → ℤ
to_digits Round n digits = rounding_of n digits
to_digits Trunc n digits = truncation_of n digits

-- a number to so many digits, and an integer where none are given
abbrev pub placed : RoundFunction → Option ℤ → ℤ → Value
placed function (Some digits) n = Number (to_digits function n digits)
placed function None n = Integer (in_ones (to_digits function n (pos 0)))

-- VTL 2.0 Reference Manual, round (half away from zero) and trunc (towards zero); null where the digits are beyond their limits
abbrev pub rounded : RoundFunction → Option ℤ → Value → Value
rounded function digits v = if digits_fit digits then of_number (placed function digits) v else Null
