-- How a text is cut into blocks, and what stands in one (docs/formats.md, "Feeds").
use Rattle.std.specs.Prelude.{◌==◌, ℕ, Bool, true, false, ◌&&◌, ◌||◌, if◌then◌else◌, List, [], ◌∷◌, drop, reverse, chars}
use Rattle.std.specs.List.{after_first}

abbrev pub LINE_FEED : ℕ
LINE_FEED = 10

abbrev pub CARRIAGE_RETURN : ℕ
CARRIAGE_RETURN = 13

abbrev pub SPACE : ℕ
SPACE = 32

abbrev pub TAB : ℕ
TAB = 9

-- `@` and `+`
abbrev pub AT_SIGN : ℕ
AT_SIGN = 64

abbrev pub PLUS : ℕ
PLUS = 43

-- the bytes before the first block, and those of each block, without the `@` that starts it
pub record Cut : Type 0 where
  pub before : List ℕ
  pub blocks : List (List ℕ)

-- with a byte before all that starts no block, and with an `@` before all that starts one
abbrev pub put_byte : ℕ → Cut → Cut
put_byte b cut = record { before = b ∷ cut.before; blocks = cut.blocks }

abbrev pub start_block : Cut → Cut
start_block cut = record { before = []; blocks = cut.before ∷ cut.blocks }

-- an `@` that begins a line starts a block; `fresh` says that a line begins here, as it does at the start of a text and
-- after each line feed
abbrev pub cut_from : Bool → List ℕ → Cut
cut_from fresh [] = record { before = []; blocks = [] }
cut_from fresh (b ∷ bytes) = if fresh && (b == AT_SIGN) then start_block (cut_from false bytes) else put_byte b (cut_from (b == LINE_FEED) bytes)

-- a text in blocks
abbrev pub cut : List ℕ → Cut
cut = cut_from true

abbrev pub is_blank : ℕ → Bool
is_blank b = (b == SPACE) || (b == TAB)

abbrev pub is_line_feed : ℕ → Bool
is_line_feed b = b == LINE_FEED

-- whether these bytes begin with this one
abbrev pub begins_with : ℕ → List ℕ → Bool
begins_with byte [] = false
begins_with byte (b ∷ bytes) = b == byte

-- these bytes begin with the end of a line: a line feed, or a carriage return and a line feed
abbrev pub ends_line : List ℕ → Bool
ends_line [] = false
ends_line (b ∷ bytes) = (b == LINE_FEED) || ((b == CARRIAGE_RETURN) && begins_with LINE_FEED bytes)

-- nothing but blank lines: blanks and ends of lines
abbrev pub is_blank_text : List ℕ → Bool
is_blank_text [] = true
is_blank_text (b ∷ bytes) = (is_blank b || ends_line (b ∷ bytes)) && is_blank_text bytes

-- the first line, without its end
abbrev pub first_line : List ℕ → List ℕ
first_line [] = []
first_line (b ∷ bytes) = if ends_line (b ∷ bytes) then [] else b ∷ first_line bytes

-- what stands after the first line
abbrev pub after_line : List ℕ → List ℕ
after_line bytes = after_first is_line_feed bytes

-- without the blanks at the beginning, and without those at both ends
abbrev pub without_leading : List ℕ → List ℕ
without_leading [] = []
without_leading (b ∷ bytes) = if is_blank b then without_leading bytes else b ∷ bytes

abbrev pub without_trailing : List ℕ → List ℕ
without_trailing bytes = reverse (without_leading (reverse bytes))

abbrev pub trimmed : List ℕ → List ℕ
trimmed bytes = without_trailing (without_leading bytes)

-- a block whose line begins with `@+` is a further part of a revision
abbrev pub is_further : List ℕ → Bool
is_further block = begins_with PLUS (first_line block)

-- the name on a line: what stands after a `+`, if there is one, without blanks at its ends
abbrev pub name_on : List ℕ → List ℕ
name_on line = trimmed (if begins_with PLUS line then drop 1 line else line)

-- the name of a block's data set
abbrev pub set_of : List ℕ → List ℕ
set_of block = chars (name_on (first_line block))
