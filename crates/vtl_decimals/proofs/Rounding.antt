-- How sizes and signs are rounded.
use Rattle.std.proofs.Common.{◌≡◌, ◌≢◌, ℕ, zero, suc, ◌+◌, ◌-◌, ◌*◌, ◌/◌, ◌%◌, ◌^◌, ◌<◌, ◌≤◌, ℤ, pos, negsuc, ◌-ℤ◌, ◌*ℤ◌, neg_ℤ, nat_abs, Bool, false, not, if◌then◌else◌, refl, sym, ap, ◌∙◌, arith, FitsSigned, ◌≤ℤ◌, int_div}
use Rattle.std.proofs.lemmas.Bool.Decides.{nat_tests}
use Rattle.std.proofs.lemmas.Nat.{div_below, div-add-mod', mul-le, pow-add}
use Rattle.std.proofs.lemmas.Int.{fits_signed_from_abs, unsigned_abs-mul, ints}
use Rattle.std.proofs.Math.Nat.{mul-add-div_right, one-le-pow, mul-le-mul_right, div-mul-le_self}
use Rattle.std.specs.Int.{w128, is_negative}
use mathlib.Core.Bool.{beq}
use Rattle.vtl_values.specs.Ranges.{MOST_MILLIONTHS, IsNumber}
use Rattle.vtl_decimals.specs.Arithmetic.{nearest, rounded, rounded_quotient, unit_of}

-- a size of at most k times the divisor is rounded to at most k
pub nearest-le : (n b k : ℕ) → 0 < b → n ≤ k * b → nearest n b ≤ k
nearest-le n b k positive h =
    let below : (2 * n + b) / (2 * b) < k + 1 = div_below (2 * n + b) (2 * b) (k + 1) (omega arith) (omega arith) in
    omega arith

nearest-zero : (b : ℕ) → 0 < b → nearest 0 b ≡ 0
nearest-zero b positive = omega (arith, nearest-le 0 b 0 positive (omega arith))

-- whole divisors come out of the rounding
pub nearest-add : (k n b : ℕ) → 0 < b → nearest (k * b + n) b ≡ k + nearest n b
nearest-add k n b positive =
    let e : 2 * (k * b + n) + b ≡ k * (2 * b) + (2 * n + b) = omega arith in
    ap (λ v. v / (2 * b)) e ∙ mul-add-div_right (omega arith) k (2 * n + b)

-- a product, by the first factor's whole part and its rest
pub nearest-mul : (x y b : ℕ) → 0 < b → x / b * y + nearest (x % b * y) b ≡ nearest (x * y) b
nearest-mul x y b positive =
    let parts : (x / b * b + x % b) * y ≡ x * y = ap (λ v. v * y) (div-add-mod' x b) in
    let e : (x / b * y) * b + x % b * y ≡ x * y = omega (arith, parts) in
    sym (nearest-add (x / b * y) (x % b * y) b positive) ∙ ap (λ v. nearest v b) e

not_negative : (n : ℕ) → is_negative (pos n) ≡ false
not_negative n = grind (arith, nat_tests)

-- a size, negative where the two signs differ
abbrev pub under_signs : Bool → Bool → ℕ → ℤ
under_signs p q size = if not (beq p q) then neg_ℤ (pos size) else pos size

rounded-signs : (a b : ℤ) → b ≢ pos 0 → under_signs (is_negative a) (is_negative b) (nearest (nat_abs a) (nat_abs b)) ≡ rounded_quotient a b
unfolding rounded_quotient
rounded-signs (pos a) (pos b) nonzero = rw (not_negative a, not_negative b) refl
rounded-signs (pos zero) (negsuc b) nonzero = rw (nearest-zero (suc b) (omega arith)) refl
rounded-signs (pos (suc a)) (negsuc b) nonzero = rw (not_negative (suc a)) refl
rounded-signs (negsuc a) (pos b) nonzero = rw (not_negative b) refl
rounded-signs (negsuc a) (negsuc b) nonzero = refl

-- a quotient by the signs and the sizes of its two numbers
pub rounded_quotient-signs : (a b : ℤ) (p q : Bool) (size : ℕ) → b ≢ pos 0 → p ≡ is_negative a → q ≡ is_negative b → size ≡ nearest (nat_abs a) (nat_abs b) → under_signs p q size ≡ rounded_quotient a b
rounded_quotient-signs a b p q size nonzero a_sign b_sign e = (λ i. under_signs (a_sign i) (b_sign i) (e i)) ∙ rounded-signs a b nonzero

rounded-neg : (n b : ℕ) → 0 < b → neg_ℤ (pos (nearest n b)) ≡ rounded (neg_ℤ (pos n)) b
rounded-neg zero b positive = rw (nearest-zero b positive) refl
rounded-neg (suc n) b positive = refl

product-signs : (a b : ℤ) (by : ℕ) → 0 < by → under_signs (is_negative a) (is_negative b) (nearest (nat_abs a * nat_abs b) by) ≡ rounded_quotient (a *ℤ b) (pos by)
unfolding rounded_quotient
product-signs (pos a) (pos b) by positive = rw (not_negative a, not_negative b) refl
product-signs (pos a) (negsuc b) by positive = rw (not_negative a) (rounded-neg (a * suc b) by positive)
product-signs (negsuc a) (pos b) by positive = rw (not_negative b) (rounded-neg (suc a * b) by positive)
product-signs (negsuc a) (negsuc b) by positive = refl

-- a rounded product by the signs and the sizes of its two numbers
pub rounded_product-signs : (a b : ℤ) (p q : Bool) (size by : ℕ) → 0 < by → p ≡ is_negative a → q ≡ is_negative b → size ≡ nearest (nat_abs a * nat_abs b) by → under_signs p q size ≡ rounded_quotient (a *ℤ b) (pos by)
rounded_product-signs a b p q size by positive a_sign b_sign e = (λ i. under_signs (a_sign i) (b_sign i) (e i)) ∙ product-signs a b by positive

pub nat_abs-neg : (a : ℤ) → nat_abs (neg_ℤ a) ≡ nat_abs a
nat_abs-neg a = omega (arith, ints)

-- the size of a rounded quotient
pub nat_abs-rounded_quotient : (a : ℤ) (b : ℕ) → nat_abs (rounded_quotient a (pos b)) ≡ nearest (nat_abs a) b
unfolding rounded_quotient
nat_abs-rounded_quotient (pos a) b = refl
nat_abs-rounded_quotient (negsuc a) b = nat_abs-neg (pos (nearest (suc a) b))

-- a product of two numbers has room to spare
pub product-room : (x y : ℕ) → x ≤ MOST_MILLIONTHS → y ≤ MOST_MILLIONTHS → nearest (x * y) 1000000 < 2 ^ 127
product-room x y x_small y_small =
    let small : x * y ≤ 10 ^ 36 * 1000000 = mul-le x y MOST_MILLIONTHS MOST_MILLIONTHS x_small y_small in
    let rounded_small : nearest (x * y) 1000000 ≤ 10 ^ 36 = nearest-le (x * y) 1000000 (10 ^ 36) (omega arith) small in
    omega arith

-- a number fits the code's type
pub number-fits : (z : ℤ) → IsNumber z → FitsSigned w128 z
number-fits z h = fits_signed_from_abs w128 z (omega arith)

-- a digit's place: at most 21 places above the last, and the range is a multiple of it
pub unit-place : (digits : ℤ) → negsuc 14 ≤ℤ digits → digits ≤ℤ pos 6 → nat_abs (pos 6 -ℤ digits) ≤ 21
unit-place digits low high = omega (arith, ints)

pub unit-positive : (digits : ℤ) → 0 < unit_of digits
unit-positive digits = one-le-pow (nat_abs (pos 6 -ℤ digits)) 10 (omega arith)

pub unit-divides : (digits : ℤ) → negsuc 14 ≤ℤ digits → digits ≤ℤ pos 6 → 10 ^ (21 - nat_abs (pos 6 -ℤ digits)) * unit_of digits ≡ MOST_MILLIONTHS
unit-divides digits low high =
    let place = unit-place digits low high in
    let e : 21 - nat_abs (pos 6 -ℤ digits) + nat_abs (pos 6 -ℤ digits) ≡ 21 = omega (arith, place) in
    sym (pow-add 10 (21 - nat_abs (pos 6 -ℤ digits)) (nat_abs (pos 6 -ℤ digits))) ∙ ap (λ n. 10 ^ n) e

-- a rounded number is in range where the range is a multiple of the place
pub rounded-IsNumber : (a : ℤ) (unit k : ℕ) → 0 < unit → k * unit ≡ MOST_MILLIONTHS → IsNumber a → IsNumber (rounded_quotient a (pos unit) *ℤ pos unit)
rounded-IsNumber a unit k positive divides h =
    let size : nat_abs (rounded_quotient a (pos unit) *ℤ pos unit) ≡ nearest (nat_abs a) unit * unit =
    unsigned_abs-mul (rounded_quotient a (pos unit)) (pos unit) ∙ ap (λ n. n * unit) (nat_abs-rounded_quotient a unit) in
    let small : nearest (nat_abs a) unit ≤ k = nearest-le (nat_abs a) unit k positive (omega arith) in
    let most : nearest (nat_abs a) unit * unit ≤ k * unit = mul-le-mul_right unit small in
    omega arith

-- a number cut towards zero is no further from it
pub cut-not_further : (a : ℤ) (unit : ℕ) → nat_abs (int_div a (pos unit) *ℤ pos unit) ≤ nat_abs a
cut-not_further (pos a) unit = div-mul-le_self a unit
cut-not_further (negsuc a) unit =
    rw (unsigned_abs-mul (neg_ℤ (pos (suc a / unit))) (pos unit), nat_abs-neg (pos (suc a / unit))) (div-mul-le_self (suc a) unit)

pub cut-IsNumber : (a : ℤ) (unit : ℕ) → IsNumber a → IsNumber (int_div a (pos unit) *ℤ pos unit)
cut-IsNumber a unit h = omega (arith, cut-not_further a unit)

pub unit-nonzero : (digits z : ℤ) → z ≡ pos (unit_of digits) → z ≢ pos 0
unit-nonzero digits z e none = let same : pos (unit_of digits) ≡ pos 0 = sym e ∙ none in omega (arith, ints, unit-positive digits)
