-- What operators on numbers give is within the ranges.
use Rattle.std.proofs.Common.{◌≡◌, ◌/◌, ◌≤◌, arith, ℕ, zero, suc, ℤ, pos, negsuc, neg_ℤ, nat_abs, nat_le, ◌≤ℤ◌, Bool, true, false, Some, None, IfSome, if◌then◌else◌, refl}
use Rattle.std.proofs.lemmas.Bool.Decides.{nat_tests}
use Rattle.std.proofs.lemmas.Int.{ints, unsigned_abs-mul}
use Rattle.vtl_values.specs.Ranges.{MOST_INTEGER, MOST_MILLIONTHS, IsInteger, IsNumber}
use Rattle.vtl_syntax.specs.declared.words.RoundFunction.{RoundFunction}
use Rattle.vtl_syntax.specs.declared.words.RoundFunction.TheVariants.{Round, Trunc}
use Rattle.vtl_decimals.specs.Arithmetic.{ONE, number_of, floored, floor_quotient, floor_of, ceiling_of, remainder_of}
use Rattle.vtl_decimals.proofs.Rounding.{nat_abs-neg, unit-positive, unit-divides, rounded-IsNumber, cut-IsNumber}
use Rattle.vtl_decimals.proofs.SchoolLaws.{remainder_of-positive, remainder_of-negative}
use Rattle.scalar_trees.specs.WellTyped.{digits_fit}
use Rattle.scalar_meaning.specs.Numbers.{integer_of, in_ones, to_digits}

pub integer-in : (z : ℤ) → IfSome (integer_of z) (λ n. nat_le (nat_abs n) MOST_INTEGER ≡ true)
unfolding integer_of
integer-in z = at (nat_le (nat_abs z) MOST_INTEGER) refl
  where
    at : (b : Bool) → nat_le (nat_abs z) MOST_INTEGER ≡ b → IfSome (if b then Some z else None) (λ n. nat_le (nat_abs n) MOST_INTEGER ≡ true)
    at true e = e
    at false e = tt

pub number-in : (z : ℤ) → IfSome (number_of z) (λ n. nat_le (nat_abs n) MOST_MILLIONTHS ≡ true)
unfolding number_of
number-in z = at (nat_le (nat_abs z) MOST_MILLIONTHS) refl
  where
    at : (b : Bool) → nat_le (nat_abs z) MOST_MILLIONTHS ≡ b → IfSome (if b then Some z else None) (λ n. nat_le (nat_abs n) MOST_MILLIONTHS ≡ true)
    at true e = e
    at false e = tt

-- a remainder is no larger than both numbers may be
pub remainder-within : (x y : ℤ) (most : ℕ) → nat_abs x ≤ most → nat_abs y ≤ most → nat_abs (remainder_of x y) ≤ most
remainder-within x (pos zero) most h i = h
remainder-within x (pos (suc y)) most h i = let r = remainder_of-positive x (pos (suc y)) (omega (arith, ints)) in omega (arith, ints, r.0, r.1)
remainder-within x (negsuc y) most h i = let r = remainder_of-negative x (negsuc y) (omega (arith, ints)) in omega (arith, ints, r.0, r.1)

floored-within : (z : ℤ) → IsNumber z → nat_abs (floored z ONE) ≤ MOST_INTEGER
floored-within (pos n) h = omega arith
floored-within (negsuc n) h = omega arith

pub floor_of-number : (z : ℤ) → IsNumber z → IsNumber (floor_of z)
unfolding floor_quotient
floor_of-number z h = rw (unsigned_abs-mul (floored z ONE) (pos ONE)) (omega (arith, floored-within z h))

pub ceiling_of-number : (z : ℤ) → IsNumber z → IsNumber (ceiling_of z)
ceiling_of-number z h = rw (nat_abs-neg (floor_of (neg_ℤ z))) (floor_of-number (neg_ℤ z) (rw (nat_abs-neg z) h))

-- a number has no more ones than an integer may have
pub in_ones-integer : (z : ℤ) → IsNumber z → IsInteger (in_ones z)
in_ones-integer (pos n) h = omega arith
in_ones-integer (negsuc n) h = rw (nat_abs-neg (pos (suc n / ONE))) (omega arith)

pub digits-from : (d : ℤ) → digits_fit (Some d) ≡ true → negsuc 14 ≤ℤ d
digits-from (pos n) h = omega (arith, ints)
digits-from (negsuc n) h = grind (arith, nat_tests)

pub digits-to : (d : ℤ) → digits_fit (Some d) ≡ true → d ≤ℤ pos 6
digits-to (pos n) h = grind (arith, nat_tests)
digits-to (negsuc n) h = omega (arith, ints)

pub to_digits-number : (f : RoundFunction) (z d : ℤ) → digits_fit (Some d) ≡ true → IsNumber z → IsNumber (to_digits f z d)
to_digits-number Round z d fit h = rounded-IsNumber z _ _ (unit-positive d) (unit-divides d (digits-from d fit) (digits-to d fit)) h
to_digits-number Trunc z d fit h = cut-IsNumber z _ h
