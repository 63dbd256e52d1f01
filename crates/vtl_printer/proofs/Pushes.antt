-- What a text has once more is written behind it.
use Rattle.std.proofs.Common.{◌≡◌, ◌==◌, ℕ, ◌/◌, ◌%◌, ◌^◌, ◌<◌, true, false, if◌then◌else◌, List, [], ◌∷◌, ◌++◌, length, Result, Ok, Err, is_ok, OnOk, ℤ, nat_abs, decimal, refl, sym, ap, ◌∙◌, arith, append_assoc, append-nil}
use Rattle.std.proofs.Math.Utf8.{encodes}
use Rattle.std.proofs.lemmas.Bool.Decides.{nat_tests}
use Rattle.std.proofs.lemmas.Str.{encodes-IsAscii, encodes-chars}
use Rattle.std.specs.declared.alloc.AllocError.{AllocError}
use Rattle.std.specs.Char.{is_ascii_digit}
use Rattle.std.specs.List.{list_all}
use Rattle.std.specs.Str.{IsUtf8, chars}
use Rattle.vtl_values.specs.Numerals.{POINT, ZERO, is_negative, number_text, fraction_digits}
use Rattle.vtl_values.specs.Ranges.{IsNumber}
use Rattle.vtl_values.proofs.CharsOfTexts.{IsAscii-from_test, spelling_ascii}
use Rattle.vtl_values.proofs.Fractions.{all-fraction_digits, rest-lt}
use Rattle.vtl_values.proofs.Shown.{all-decimal}
use Rattle.vtl_tokens.specs.declared.token.TokenKind.{TokenKind}
use Rattle.vtl_printer.specs.Layouts.{layout}
use Rattle.vtl_printer.specs.Spellings.{number_literal}

-- what was pushed, in other words
pub pushed : (r : Result (Unit {0}) AllocError) (after before wanted added : List ℕ) → after ≡ (if is_ok r then before ++ added else before) → wanted ≡ added → OnOk r (after ≡ before ++ wanted)
pushed (Ok u) after before wanted added is same = is ∙ ap (λ l. before ++ l) (sym same)
pushed (Err e) after before wanted added is same = tt

-- a number's text is all ASCII, so its bytes are its characters
number_bytes : (z : ℤ) → IsNumber z → encodes (number_text z) ≡ number_text z
number_bytes z within =
    let size : nat_abs z / 1000000 < 10 ^ 64 = omega (arith, within) in
    let whole : list_all is_ascii_digit (decimal (nat_abs z / 1000000)) ≡ true = all-decimal (nat_abs z / 1000000) size in
    let ascii : list_all is_ascii_digit (fraction_digits 6 (nat_abs z % 1000000)) ≡ true = all-fraction_digits 6 (nat_abs z % 1000000) (rest-lt 6 (nat_abs z)) in
    encodes-IsAscii (number_text z) (IsAscii-from_test (number_text z) (spelling_ascii (is_negative z) (decimal (nat_abs z / 1000000)) (fraction_digits 6 (nat_abs z % 1000000)) whole ascii))

pub number_pushed : (z : ℤ) (shown bytes before after : List ℕ) → IsNumber z → shown ≡ number_text z → bytes ≡ encodes shown → after ≡ before ++ bytes → after ≡ before ++ number_text z
number_pushed z shown bytes before after within shown_is bytes_is after_is = after_is ∙ ap (λ l. before ++ l) (bytes_is ∙ ap encodes shown_is ∙ number_bytes z within)

-- a whole number has a decimal more
pub whole_literal : (z : ℤ) (magnitude : ℕ) → magnitude ≡ nat_abs z → magnitude % 1000000 ≡ 0 → number_literal z ≡ number_text z ++ POINT ∷ ZERO ∷ []
whole_literal z magnitude is none =
    let whole : nat_abs z % 1000000 ≡ 0 = sym (ap (λ m. m % 1000000) is) ∙ none in
    rw whole refl

pub fine_literal : (z : ℤ) (magnitude : ℕ) → magnitude ≡ nat_abs z → ¬ (magnitude % 1000000 ≡ 0) → number_literal z ≡ number_text z
fine_literal z magnitude is some =
    let fine : (nat_abs z % 1000000 == 0) ≡ false = sym (ap (λ m. m % 1000000 == 0) is) ∙ grind (arith, nat_tests) in
    rw fine (append-nil (number_text z))

pub pushed_behind : (r : Result (Unit {0}) AllocError) (after between before front whole added : List ℕ) → after ≡ (if is_ok r then between ++ added else between) → between ≡ before ++ front → whole ≡ front ++ added → OnOk r (after ≡ before ++ whole)
pushed_behind (Ok u) after between before front whole added is between_is whole_is = is ∙ ap (λ l. l ++ added) between_is ∙ append_assoc before front added ∙ ap (λ l. before ++ l) (sym whole_is)
pushed_behind (Err e) after between before front whole added is between_is whole_is = tt

-- once nothing is left, all is written
pub all_written : (text word : List ℕ) (kinds rest : List TokenKind) → IsUtf8 text → text ++ layout rest ≡ layout kinds → length rest < 1 → word ≡ chars text → encodes word ≡ layout kinds
all_written text word kinds [] utf8 so_far none is = ap encodes is ∙ encodes-chars text utf8 ∙ sym (append-nil text) ∙ so_far
all_written text word kinds (kind ∷ behind) utf8 so_far none is = absurd (omega arith)
