-- What is written of a value.
use Rattle.std.proofs.Common.{◌≡◌, ℕ, ◌/◌, ◌%◌, ◌<◌, ◌^◌, true, false, if◌then◌else◌, List, [], ◌∷◌, ◌++◌, Result, OnOk, ℤ, pos, negsuc, nat_abs, decimal, codes, refl, sym, ap, subst, ◌∙◌, arith, append_assoc}
use Rattle.std.proofs.Math.Utf8.{encode}
use Rattle.std.proofs.lemmas.Fmt.{decimal_is_IsNumeral_wide, IsAscii-signed}
use Rattle.std.proofs.lemmas.Bool.Decides.{nat_tests}
use Rattle.std.specs.Prelude.{int_lt}
use Rattle.vtl_values.specs.Ranges.{IsInteger}
use Rattle.std.specs.Fmt.{signed_decimal}
use Rattle.std.proofs.lemmas.Str.{chars-IsAscii, encode_ascii}
use Rattle.std.specs.Char.{is_ascii_digit}
use Rattle.std.specs.List.{list_all}
use Rattle.std.specs.Str.{chars}
use Rattle.std.specs.declared.alloc.AllocError.{AllocError}
use Rattle.vtl_values.specs.Numerals.{MINUS, POINT, pointed, fraction_digits, is_negative, number_text}
use Rattle.vtl_values.specs.Texts.{BACKSLASH, needs_backslash}
use Rattle.vtl_values.proofs.CharsOfTexts.{IsAscii-from_test, spelling_ascii, chars-backslash}
use Rattle.vtl_values.proofs.Digits.{test-from_AllDigits}
use Rattle.vtl_values.proofs.Fractions.{all-fraction_digits, rest-lt, fraction_digits-suc}

-- an answer by an equal text
pub instead_on : (r : Result (Unit {0}) AllocError) (after a b : List ℕ) → a ≡ b → OnOk r (after ≡ a) → OnOk r (after ≡ b)
instead_on r after a b same given = subst (λ x. OnOk r (after ≡ x)) same given

pub chars-true : chars (codes "true") ≡ codes "true"
unfolding chars
chars-true = refl

pub chars-false : chars (codes "false") ≡ codes "false"
unfolding chars
chars-false = refl

-- a text with its backslash, and one that needs none
pub with_backslash : (content word : List ℕ) → chars content ≡ word → true ≡ needs_backslash (chars content) → chars (([] ++ encode BACKSLASH) ++ content) ≡ (if needs_backslash word then BACKSLASH ∷ word else word)
with_backslash content word is needs =
    ap (λ l. chars (l ++ content)) (encode_ascii BACKSLASH (omega arith))
    ∙ chars-backslash content
    ∙ ap (λ l. BACKSLASH ∷ l) is
    ∙ sym (rw (ap needs_backslash (sym is) ∙ sym needs) refl)

pub without : (content word : List ℕ) → chars content ≡ word → false ≡ needs_backslash (chars content) → chars ([] ++ content) ≡ (if needs_backslash word then BACKSLASH ∷ word else word)
without content word is needs = is ∙ sym (rw (ap needs_backslash (sym is) ∙ sym needs) refl)

-- a point stands before decimals
pub pointed-fraction : (n : ℕ) → 0 < n → pointed (fraction_digits 6 n) ≡ POINT ∷ fraction_digits 6 n
pointed-fraction n some = rw (fraction_digits-suc 5 n some) refl

-- an integer's text is all ASCII
pub chars-integer : (z : ℤ) → IsInteger z → chars (signed_decimal z) ≡ signed_decimal z
chars-integer (pos n) within = chars-IsAscii (signed_decimal (pos n)) (IsAscii-signed (pos n) (omega arith))
chars-integer (negsuc n) within = chars-IsAscii (signed_decimal (negsuc n)) (IsAscii-signed (negsuc n) (omega arith))

-- the test of a number's sign
pub negative-test : (z : ℤ) → int_lt z (pos 0) ≡ is_negative z
negative-test (pos n) = grind (arith, nat_tests)
negative-test (negsuc n) = refl

-- the digits before the point
pub all-decimal : (n : ℕ) → n < 10 ^ 64 → list_all is_ascii_digit (decimal n) ≡ true
all-decimal n below = test-from_AllDigits (decimal n) (decimal_is_IsNumeral_wide n below).0.1

-- a number is written as its sign, its whole digits and its decimals
pub chars-number : (z : ℤ) (sign : List ℕ) (magnitude : ℕ) → sign ≡ (if is_negative z then MINUS ∷ [] else []) → magnitude ≡ nat_abs z → magnitude / 1000000 < 10 ^ 64
    → chars ((sign ++ decimal (magnitude / 1000000)) ++ pointed (fraction_digits 6 (magnitude % 1000000))) ≡ number_text z
chars-number z sign magnitude is_sign is below =
    let spelled : (sign ++ decimal (magnitude / 1000000)) ++ pointed (fraction_digits 6 (magnitude % 1000000)) ≡ number_text z =
    append_assoc sign (decimal (magnitude / 1000000)) (pointed (fraction_digits 6 (magnitude % 1000000))) ∙ rw (is_sign, is) refl in
    let ascii : list_all is_ascii_digit (fraction_digits 6 (nat_abs z % 1000000)) ≡ true = all-fraction_digits 6 (nat_abs z % 1000000) (rest-lt 6 (nat_abs z)) in
    let whole : list_all is_ascii_digit (decimal (nat_abs z / 1000000)) ≡ true = all-decimal (nat_abs z / 1000000) (rw is at below) in
    ap chars spelled ∙ chars-IsAscii (number_text z) (IsAscii-from_test (number_text z) (spelling_ascii (is_negative z) (decimal (nat_abs z / 1000000)) (fraction_digits 6 (nat_abs z % 1000000)) whole ascii))
