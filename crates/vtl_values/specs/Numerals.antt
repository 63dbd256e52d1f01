-- Numbers and integers as texts (docs/formats.md, "Values").
use Rattle.std.specs.Prelude.{◌≡◌, ◌==◌, ℕ, zero, suc, ◌+◌, ◌*◌, ◌/◌, ◌%◌, ◌^◌, Bool, true, false, not, ◌&&◌, ◌||◌, nat_lt, if◌then◌else◌, List, [], ◌∷◌, ◌++◌, length, drop, take, replicate, All, decimal, Result, Ok, Err, ℤ, pos, negsuc, neg_ℤ, nat_abs}
use Rattle.std.specs.Char.{is_ascii_digit}
use Rattle.std.specs.List.{before_first, after_first, list_all, list_any}
use Rattle.std.specs.Str.Parse.{digits_value, IsNumeral, AllDigits}
use Rattle.vtl_values.specs.declared.read.BadText.{BadText}
use Rattle.vtl_values.specs.declared.read.BadText.TheVariants.{NotANumber, TooFine, OutOfRange, NotAnInteger}
use Rattle.vtl_values.specs.Ranges.{MOST_INTEGER, MOST_MILLIONTHS}

-- `-`, `.` and `0`
abbrev pub MINUS : ℕ
MINUS = 45

abbrev pub POINT : ℕ
POINT = 46

abbrev pub ZERO : ℕ
ZERO = 48

-- n, or -n
abbrev pub signed : Bool → ℕ → ℤ
signed negative n = if negative then neg_ℤ (pos n) else pos n

-- the text's first character is this one
abbrev pub begins_with : ℕ → List ℕ → Bool
begins_with c [] = false
begins_with c (d ∷ ds) = d == c

-- the text without this character, if it begins with it
abbrev pub without_first : ℕ → List ℕ → List ℕ
without_first c text = if begins_with c text then drop 1 text else text

-- at least one digit, and nothing else
abbrev pub is_digits : List ℕ → Bool
is_digits text = nat_lt 0 (length text) && list_all is_ascii_digit text

-- an integer is an optional `-` and digits
abbrev pub integer_of : List ℕ → Result ℤ BadText
integer_of text =
    let digits = without_first MINUS text in
    if not (is_digits digits) then Err NotAnInteger
    else if nat_lt MOST_INTEGER (digits_value 10 digits) then Err OutOfRange
    else Ok (signed (begins_with MINUS text) (digits_value 10 digits))

abbrev pub is_point : ℕ → Bool
is_point c = c == POINT

-- what stands before the point, and what stands after it
abbrev pub whole_of : List ℕ → List ℕ
whole_of text = before_first is_point (without_first MINUS text)

abbrev pub decimals_of : List ℕ → List ℕ
decimals_of text = after_first is_point (without_first MINUS text)

-- a number is an optional `-`, digits, and optionally `.` and digits
abbrev pub is_number : List ℕ → Bool
is_number text = is_digits (whole_of text) && (not (list_any is_point (without_first MINUS text)) || is_digits (decimals_of text))

-- a digit other than 0 stands after the sixth decimal
abbrev pub is_too_fine : List ℕ → Bool
is_too_fine decimals = list_any (λ c. not (c == ZERO)) (drop 6 decimals)

-- millions of the whole part, and the first six decimals, filled up with zeros
abbrev pub millionths_of : List ℕ → List ℕ → ℕ
millionths_of whole decimals = 10 ^ 6 * digits_value 10 whole + digits_value 10 (take 6 (decimals ++ replicate 6 ZERO))

-- a number in millionths, with the refusals in their order
abbrev pub number_of : List ℕ → Result ℤ BadText
number_of text =
    let millionths = millionths_of (whole_of text) (decimals_of text) in
    if not (is_number text) then Err NotANumber
    else if is_too_fine (decimals_of text) then Err TooFine
    else if nat_lt MOST_MILLIONTHS millionths then Err OutOfRange
    else Ok (signed (begins_with MINUS text) millionths)

-- a point before decimals, if there are any
abbrev pub pointed : List ℕ → List ℕ
pointed [] = []
pointed (d ∷ ds) = POINT ∷ d ∷ ds

-- a text of a sign, digits, and a point and digits where there are decimals
abbrev pub spelling : Bool → List ℕ → List ℕ → List ℕ
spelling negative whole decimals = (if negative then MINUS ∷ [] else []) ++ (whole ++ pointed decimals)

-- the text spells this number of millionths
pub record SpellsNumber (text : List ℕ) (millionths : ℤ) : Type 0 where
  pub negative : Bool
  pub whole : List ℕ
  pub decimals : List ℕ
  pub spelled : text ≡ spelling negative whole decimals
  pub whole_digits : IsNumeral 10 whole
  pub decimal_digits : AllDigits 10 decimals
  -- only zeros stand after the sixth decimal
  pub fine : All (λ c. c ≡ ZERO) (drop 6 decimals)
  pub value : millionths ≡ signed negative (millionths_of whole decimals)

-- the digits of n out of 10^places from the left, as far as the last that isn't 0
unfoldable pub fraction_digits : ℕ → ℕ → List ℕ
fraction_digits zero n = []
fraction_digits (suc places) n = if n == 0 then [] else (ZERO + n / 10 ^ places) ∷ fraction_digits places (n % 10 ^ places)

abbrev pub is_negative : ℤ → Bool
is_negative (pos n) = false
is_negative (negsuc n) = true

-- how millionths are written: no leading zeros, no `-0`, no trailing zeros after the point
abbrev pub number_text : ℤ → List ℕ
number_text z = spelling (is_negative z) (decimal (nat_abs z / 10 ^ 6)) (fraction_digits 6 (nat_abs z % 10 ^ 6))
