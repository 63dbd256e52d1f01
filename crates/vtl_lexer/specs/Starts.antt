-- What the first bytes of a text begin (docs/language.md, "Tokens").
use Rattle.std.specs.Prelude.{ℕ, Bool, false, ◌==◌, ◌||◌, if◌then◌else◌, List, [], ◌∷◌, Option, Some, None}
use Rattle.std.specs.Char.{is_ascii_alphabetic, is_ascii_alphanumeric, is_ascii_digit}
use Rattle.vtl_lexer.specs.declared.start.Start.{Start}
use Rattle.vtl_lexer.specs.declared.start.Start.TheVariants.{Blank, LineComment, BlockComment, QuotedName, Text, Literal, Word, Other}

-- the line end, `"`, `'`, `*` and `/`
abbrev pub LINE_END : ℕ
LINE_END = 10

abbrev pub QUOTE : ℕ
QUOTE = 34

abbrev pub APOSTROPHE : ℕ
APOSTROPHE = 39

abbrev pub STAR : ℕ
STAR = 42

abbrev pub SLASH : ℕ
SLASH = 47

-- a blank, a tab or a line end
abbrev pub is_blank : ℕ → Bool
is_blank b = b == 32 || b == 9 || b == LINE_END

-- a letter, a digit, `_` or `.`
abbrev pub is_name_byte : ℕ → Bool
is_name_byte b = is_ascii_alphanumeric b || b == 95 || b == 46

-- the text has a first byte, and it passes the test
abbrev pub first_passes : (ℕ → Bool) → List ℕ → Bool
first_passes test [] = false
first_passes test (b ∷ bs) = test b

-- a slash begins a comment where a slash or a star follows
abbrev pub slash_start : Option ℕ → Start
slash_start None = Other
slash_start (Some c) = if c == SLASH then LineComment else if c == STAR then BlockComment else Other

-- what a byte begins before another, or at the end
abbrev pub start_at : ℕ → Option ℕ → Start
start_at b next =
    if is_blank b then Blank
    else if b == SLASH then slash_start next
    else if b == APOSTROPHE then QuotedName
    else if b == QUOTE then Text
    else if is_ascii_digit b then Literal
    else if is_ascii_alphabetic b then Word
    else Other

-- what the text begins with
abbrev pub start_of : List ℕ → Start
start_of [] = Other
start_of (b ∷ []) = start_at b None
start_of (b ∷ c ∷ bs) = start_at b (Some c)

-- how many bytes tell it
abbrev pub start_len : Start → ℕ
start_len LineComment = 2
start_len BlockComment = 2
start_len Other = 0
start_len _ = 1
