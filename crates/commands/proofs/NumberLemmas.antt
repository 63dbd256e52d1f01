-- Numbers that words are.
use Rattle.std.proofs.Common.{◌≡◌, ◌≢◌, ◌≤◌, ◌<◌, ◌^◌, ℕ, Bool, true, false, ◌&&◌, ◌||◌, ◌==◌, not, List, [], ◌∷◌, length, map, Option, Some, None, Result, Ok, Err, refl, sym, ◌∙◌, ap, arith, inl, inr}
use Rattle.std.specs.List.{list_all}
use Rattle.std.specs.Char.{is_ascii_digit}
use Rattle.std.specs.Result.{OkIff, result_ok}
use Rattle.std.specs.Str.{all_ascii_digits}
use Rattle.std.specs.Str.Parse.{ParsesUnsigned, digits_value}
use Rattle.std.proofs.lemmas.Bool.{and_parts, cases_lt}
use Rattle.std.proofs.lemmas.Str.Parse.{IsNumeralModel, numerals_by_value, parse_digits, tells_all_ascii_digits}
use Rattle.commands.specs.Words.{is_plain_number}

pub digits-listed : (ds : List ℕ) → list_all is_ascii_digit ds ≡ all_ascii_digits ds
digits-listed [] = refl
digits-listed (d ∷ ds) = ap (λ b. is_ascii_digit d && b) (digits-listed ds)

AreDigits : List ℕ → Type 0
AreDigits ds = all_ascii_digits ds ≡ true

own : IsNumeralModel AreDigits (digits_value 10)
unfolding AreDigits
own = numerals_by_value AreDigits tells_all_ascii_digits

too_large : {E : Type 0} (bs : List ℕ) (r : Result ℕ E) → 0 < length bs → OkIff r ((0 < length bs) × (digits_value 10 bs < 2 ^ 64)) (digits_value 10 bs) → result_ok r ≡ None → 2 ^ 64 ≤ digits_value 10 bs
too_large bs (Ok x) some iff none = cc
too_large bs (Err e) some iff none = elim (cases_lt (digits_value 10 bs) (2 ^ 64)) [ inl low ↦ absurd (iff (some, low)) | inr high ↦ omega (arith, high) ]

-- digits that aren't parsed are too many
pub number-none : {E : Type 0} (bs : List ℕ) (r : Result ℕ E) → ParsesUnsigned 64 10 bs r → result_ok r ≡ None → is_plain_number bs ≡ true → 2 ^ 64 ≤ digits_value 10 bs
unfolding AreDigits
number-none [] r parses none plain = cc
number-none (d ∷ ds) r parses none plain =
    let digits = (and_parts (all_ascii_digits (d ∷ ds)) _ plain).0 in
    too_large (d ∷ ds) r (omega arith) (parse_digits own 64 (d ∷ ds) r parses digits) none
