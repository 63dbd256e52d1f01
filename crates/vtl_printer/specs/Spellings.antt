-- How tokens are written, as UTF-8 (docs/language.md, "Tokens").
use Rattle.std.specs.Prelude.{ℕ, ◌^◌, ◌%◌, ◌==◌, Bool, ◌&&◌, is_none, if◌then◌else◌, List, [], ◌∷◌, ◌++◌, length, ℤ, nat_abs, encode_utf8_all}
use Rattle.std.specs.Char.{is_ascii_alphabetic}
use Rattle.std.specs.Fmt.{signed_decimal}
use Rattle.vtl_values.specs.Numerals.{POINT, ZERO, number_text}
use Rattle.vtl_tokens.specs.declared.token.TokenKind.{TokenKind}
use Rattle.vtl_tokens.specs.declared.token.TokenKind.TheVariants.{Name, Reserved, Text, Integer, Number, Sign, End}
use Rattle.vtl_tokens.specs.Keywords.{word_of, keyword_of}
use Rattle.vtl_tokens.specs.Signs.{sign_text}
use Rattle.vtl_lexer.specs.Starts.{QUOTE, APOSTROPHE, first_passes}
use Rattle.vtl_lexer.specs.Scans.{word_len}

abbrev pub between : ℕ → List ℕ → List ℕ
between quote text = quote ∷ (text ++ quote ∷ [])

-- a letter, then letters, digits, `_` and `.` to the end
abbrev pub has_name_shape : List ℕ → Bool
has_name_shape name = first_passes is_ascii_alphabetic name && (word_len name == length name)

-- it has a name's shape, and is no reserved word
abbrev pub is_bare : List ℕ → Bool
is_bare name = has_name_shape name && is_none (keyword_of name)

-- a name stands in quotes where it has to
abbrev pub name_text : List ℕ → List ℕ
name_text name = if is_bare name then name else between APOSTROPHE name

-- each double quote twice
abbrev pub doubled : List ℕ → List ℕ
doubled [] = []
doubled (b ∷ bs) = (if b == QUOTE then QUOTE ∷ QUOTE ∷ [] else b ∷ []) ++ doubled bs

-- a whole number has one decimal, by which it is no integer
abbrev pub number_literal : ℤ → List ℕ
number_literal millionths = number_text millionths ++ (if nat_abs millionths % 10 ^ 6 == 0 then POINT ∷ ZERO ∷ [] else [])

abbrev pub token_text : TokenKind → List ℕ
token_text (Name name) = name_text (encode_utf8_all name)
token_text (Reserved word) = word_of word
token_text (Text text) = between QUOTE (doubled (encode_utf8_all text))
token_text (Integer value) = signed_decimal value
token_text (Number millionths) = number_literal millionths
token_text (Sign sign) = sign_text sign
token_text End = []
