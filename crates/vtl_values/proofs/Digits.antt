-- Texts of digits, and the numbers that they spell.
use Rattle.std.proofs.Common.{◌≡◌, ℕ, zero, suc, ◌+◌, ◌*◌, ◌<◌, ◌≤◌, Bool, true, false, ◌&&◌, List, [], ◌∷◌, ◌++◌, ◌^◌, ◌-◌, length, length-append, take, get_or, replicate, refl, ap, ◌∙◌, arith}
use Rattle.std.proofs.lemmas.Bool.Decides.{nat_tests}
use Rattle.std.proofs.lemmas.Str.{digit_value_digit}
use Rattle.std.proofs.lemmas.Str.Parse.{digit_from_value}
use Rattle.std.proofs.Math.Seq.{take-nil}
use Rattle.std.proofs.lemmas.Int.Digits.{digits_value-lt, digits_value_more}
use Rattle.std.proofs.lemmas.List.{get_or-replicate, length-replicate, length-take}
use Rattle.std.proofs.lemmas.List.Folds.{list_all-append}
use Rattle.std.specs.Char.{is_ascii_digit, digit_value}
use Rattle.std.specs.Int.{IsInRange}
use Rattle.std.specs.List.{list_all}
use Rattle.std.specs.Str.Parse.{AllDigits, digits_value, digits_value_after}
use Rattle.vtl_values.specs.Numerals.{ZERO}

pub both : (a b : Bool) → (a && b) ≡ true → (a ≡ true) × (b ≡ true)
both true b h = (refl, h)
both false b h = cc

-- the test of a digit tells that it is one
pub digit_range : (c : ℕ) → is_ascii_digit c ≡ true → IsInRange 48 57 c
digit_range c h = grind (arith, nat_tests)

pub digit_test : (c : ℕ) → IsInRange 48 57 c → is_ascii_digit c ≡ true
digit_test c h = grind (arith, nat_tests)

-- each character of a text of digits is one
pub digit_at : (ds : List ℕ) (i d : ℕ) → list_all is_ascii_digit ds ≡ true → i < length ds → IsInRange 48 57 (get_or ds i d)
digit_at [] i d all inside = absurd (omega arith)
digit_at (c ∷ ds) zero d all inside = digit_range c (both (is_ascii_digit c) (list_all is_ascii_digit ds) all).0
digit_at (c ∷ ds) (suc i) d all inside = digit_at ds i d (both (is_ascii_digit c) (list_all is_ascii_digit ds) all).1 (omega arith)

-- the two words for texts of digits say the same
pub AllDigits-from_test : (ds : List ℕ) → list_all is_ascii_digit ds ≡ true → AllDigits 10 ds
AllDigits-from_test [] all = tt
AllDigits-from_test (c ∷ ds) all =
    let p : (is_ascii_digit c ≡ true) × (list_all is_ascii_digit ds ≡ true) = both (is_ascii_digit c) (list_all is_ascii_digit ds) all in
    let r : IsInRange 48 57 c = digit_range c p.0 in
    (omega (arith, digit_value_digit c r), AllDigits-from_test ds p.1)

pub test-from_AllDigits : (ds : List ℕ) → AllDigits 10 ds → list_all is_ascii_digit ds ≡ true
test-from_AllDigits [] all = refl
test-from_AllDigits (c ∷ ds) all = rw (digit_test c (digit_from_value c all.0)) (test-from_AllDigits ds all.1)

-- more digits spell a number that is no smaller
digits_value_after-ge : (n : ℕ) (ds : List ℕ) → n ≤ digits_value_after 10 n ds
digits_value_after-ge n [] = omega arith
digits_value_after-ge n (c ∷ ds) = omega (arith, digits_value_after-ge (n * 10 + digit_value c) ds)

digits_value_after-take : (n : ℕ) (ds : List ℕ) (i : ℕ) → digits_value_after 10 n (take i ds) ≤ digits_value_after 10 n ds
digits_value_after-take n [] i = rw (take-nil {A = ℕ} i) (omega arith)
digits_value_after-take n (c ∷ ds) zero = digits_value_after-ge n (c ∷ ds)
digits_value_after-take n (c ∷ ds) (suc i) = digits_value_after-take (n * 10 + digit_value c) ds i

pub digits_value-take : (ds : List ℕ) (i : ℕ) → digits_value 10 (take i ds) ≤ digits_value 10 ds
digits_value-take ds i = digits_value_after-take 0 ds i

-- one digit more
pub digits_value-step : (ds : List ℕ) (i : ℕ) → list_all is_ascii_digit ds ≡ true → i < length ds → digits_value 10 (take (i + 1) ds) ≡ digits_value 10 (take i ds) * 10 + (get_or ds i 0 - 48)
digits_value-step ds i all inside =
    let d : digit_value (get_or ds i 0) ≡ get_or ds i 0 - 48 = omega (arith, digit_value_digit (get_or ds i 0) (digit_at ds i 0 all inside)) in
    digits_value_more 10 ds i inside ∙ ap (λ v. digits_value 10 (take i ds) * 10 + v) d

all_zeros : (n : ℕ) → list_all is_ascii_digit (replicate n ZERO) ≡ true
all_zeros zero = refl
all_zeros (suc n) = all_zeros n

pub all-filled : (ds : List ℕ) → list_all is_ascii_digit ds ≡ true → list_all is_ascii_digit (ds ++ replicate 6 ZERO) ≡ true
all-filled ds all = list_all-append is_ascii_digit ds (replicate 6 ZERO) ∙ rw all (all_zeros 6)

get_or-zeros : (ds : List ℕ) (n i : ℕ) → i < n → get_or (ds ++ replicate n ZERO) i 0 ≡ get_or ds i ZERO
get_or-zeros [] n i inside = get_or-replicate n i ZERO 0 inside
get_or-zeros (c ∷ ds) n zero inside = refl
get_or-zeros (c ∷ ds) n (suc i) inside = get_or-zeros ds n i (omega arith)

-- beyond the digits stand zeros
pub get_or-filled : (ds : List ℕ) (i : ℕ) → i < 6 → get_or (ds ++ replicate 6 ZERO) i 0 ≡ get_or ds i ZERO
get_or-filled ds i inside = get_or-zeros ds 6 i inside

pub length-filled : (ds : List ℕ) → 6 ≤ length (ds ++ replicate 6 ZERO)
length-filled ds = omega (arith, length-append ds (replicate 6 ZERO), length-replicate 6 ZERO)

list_all-take : (ds : List ℕ) (i : ℕ) → list_all is_ascii_digit ds ≡ true → list_all is_ascii_digit (take i ds) ≡ true
list_all-take [] i all = rw (take-nil {A = ℕ} i) refl
list_all-take (c ∷ ds) zero all = refl
list_all-take (c ∷ ds) (suc i) all =
    let p : (is_ascii_digit c ≡ true) × (list_all is_ascii_digit ds ≡ true) = both (is_ascii_digit c) (list_all is_ascii_digit ds) all in
    rw p.0 (list_all-take ds i p.1)

-- six digits spell a number below a million
pub six-lt : (ds : List ℕ) → list_all is_ascii_digit ds ≡ true → digits_value 10 (take 6 (ds ++ replicate 6 ZERO)) < 1000000
six-lt ds all =
    let six : length (take 6 (ds ++ replicate 6 ZERO)) ≡ 6 = omega (arith, length-take 6 (ds ++ replicate 6 ZERO), length-filled ds) in
    let below : digits_value 10 (take 6 (ds ++ replicate 6 ZERO)) < 10 ^ length (take 6 (ds ++ replicate 6 ZERO)) = digits_value-lt 10 (take 6 (ds ++ replicate 6 ZERO)) (AllDigits-from_test (take 6 (ds ++ replicate 6 ZERO)) (list_all-take (ds ++ replicate 6 ZERO) 6 (all-filled ds all))) in
    rw six at below

take-take : (xs : List ℕ) (i n : ℕ) → i ≤ n → take i (take n xs) ≡ take i xs
take-take [] i n le = rw (take-nil {A = ℕ} n) refl
take-take (x ∷ xs) zero n le = refl
take-take (x ∷ xs) (suc i) zero le = absurd (omega arith)
take-take (x ∷ xs) (suc i) (suc n) le = ap (λ l. x ∷ l) (take-take xs i n (omega arith))

pub first-lt : (ds : List ℕ) (i : ℕ) → list_all is_ascii_digit ds ≡ true → i ≤ 6 → digits_value 10 (take i (ds ++ replicate 6 ZERO)) < 1000000
first-lt ds i all le =
    let same : take i (take 6 (ds ++ replicate 6 ZERO)) ≡ take i (ds ++ replicate 6 ZERO) = take-take (ds ++ replicate 6 ZERO) i 6 le in
    let no_more : digits_value 10 (take i (take 6 (ds ++ replicate 6 ZERO))) ≤ digits_value 10 (take 6 (ds ++ replicate 6 ZERO)) = digits_value-take (take 6 (ds ++ replicate 6 ZERO)) i in
    omega (arith, rw same at no_more, six-lt ds all)
