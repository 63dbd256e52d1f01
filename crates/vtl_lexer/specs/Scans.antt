-- How far a piece goes (docs/language.md, "Tokens").
use Rattle.std.specs.Prelude.{ℕ, ◌+◌, Bool, ◌==◌, ◌&&◌, not, ◌||◌, if◌then◌else◌, List, [], ◌∷◌, ◌++◌, drop, find, Option, Some, None, nat_eq}
use Rattle.std.specs.Char.{is_ascii_digit}
use Rattle.std.specs.List.{position_or_len, starts_with}
use Rattle.vtl_values.specs.Numerals.{POINT}
use Rattle.vtl_tokens.specs.declared.sign.Sign.{Sign}
use Rattle.vtl_tokens.specs.declared.sign.Sign.TheVariants.{Arrow, Assign, Semicolon, Comma, LeftParen, RightParen, LeftBracket, RightBracket, LeftBrace, RightBrace, Plus, Minus, Star, Slash, Bars, Equal, NotEqual, LessThan, GreaterThan, AtMost, AtLeast, Hash, Colon}
use Rattle.vtl_tokens.specs.Signs.{sign_text}
use Rattle.vtl_lexer.specs.Starts.{LINE_END, QUOTE, APOSTROPHE, STAR, SLASH, is_name_byte, first_passes}

abbrev pub is_line_end : ℕ → Bool
is_line_end b = b == LINE_END

-- a quote or a line end ends a name in quotes
abbrev pub ends_name : ℕ → Bool
ends_name b = b == APOSTROPHE || b == LINE_END

abbrev pub is_point_byte : ℕ → Bool
is_point_byte b = b == POINT

-- how many bytes of a name the text begins with
abbrev pub word_len : List ℕ → ℕ
word_len text = position_or_len (λ b. not (is_name_byte b)) text

-- how many digits the text begins with
abbrev pub digits_len : List ℕ → ℕ
digits_len text = position_or_len (λ b. not (is_ascii_digit b)) text

-- a point and a digit follow the first digits
abbrev pub has_decimals : List ℕ → Bool
has_decimals text = first_passes is_point_byte (drop (digits_len text) text) && first_passes is_ascii_digit (drop (digits_len text + 1) text)

-- how many bytes of a number the text begins with, where decimals follow the first digits
abbrev pub number_len : List ℕ → ℕ
number_len text = digits_len text + 1 + digits_len (drop (digits_len text + 1) text)

-- the text begins with `*/`
abbrev pub is_close : List ℕ → Bool
is_close text = first_passes (λ b. b == STAR) text && first_passes (λ b. b == SLASH) (drop 1 text)

-- how many bytes stand before the first `*/`: all, where there is none
abbrev pub before_close : List ℕ → ℕ
before_close [] = 0
before_close (b ∷ bs) = if is_close (b ∷ bs) then 0 else before_close bs + 1

-- this byte, spelled by so many, before what is read after it
abbrev pub ahead : List ℕ → ℕ → List ℕ × ℕ → List ℕ × ℕ
ahead bytes n behind = (bytes ++ behind.0, n + behind.1)

-- after an opening quote: the bytes of the string, and how many spell them. Two quotes are one; one alone closes it
abbrev pub string_at : List ℕ → List ℕ × ℕ
string_at [] = ([], 0)
string_at (b ∷ []) = if b == QUOTE then ([], 0) else (b ∷ [], 1)
string_at (b ∷ c ∷ bs) =
    if b == QUOTE then (if c == QUOTE then ahead (QUOTE ∷ []) 2 (string_at bs) else ([], 0))
    else ahead (b ∷ []) 1 (string_at (c ∷ bs))

-- the next byte of the string, and how many spell it
abbrev pub string_byte : List ℕ → Option (ℕ × ℕ)
string_byte [] = None
string_byte (b ∷ []) = if b == QUOTE then None else Some (b, 1)
string_byte (b ∷ c ∷ bs) = if b == QUOTE then (if c == QUOTE then Some (QUOTE, 2) else None) else Some (b, 1)

-- all signs, those of two characters first
abbrev pub SIGNS : List Sign
SIGNS = Arrow ∷ Assign ∷ Bars ∷ NotEqual ∷ AtMost ∷ AtLeast ∷ Semicolon ∷ Comma ∷ LeftParen ∷ RightParen ∷ LeftBracket ∷ RightBracket ∷ LeftBrace ∷ RightBrace ∷ Plus ∷ Minus ∷ Star ∷ Slash ∷ Equal ∷ LessThan ∷ GreaterThan ∷ Hash ∷ Colon ∷ []

-- the longest sign that the text begins with
unfoldable pub sign_of : List ℕ → Option Sign
sign_of text = find (λ sign. starts_with nat_eq text (sign_text sign)) SIGNS
