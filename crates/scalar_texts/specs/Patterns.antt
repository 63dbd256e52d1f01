-- Patterns as the crate `regex` reads and matches them: VTL 2.0 Reference Manual, `match_characters`.
use Rattle.std.specs.Prelude.{◌≡◌, ℕ, ◌-◌, ◌<◌, ◌++◌, length, take, drop, Bool, false, ◌&&◌, nat_le, List, codes, encode_utf8_all, Option, Some, None, is_some, option_and_then, if◌then◌else◌, slice_index}
use Rattle.std.specs.Option.{option_map_or}
use Rattle.regex.specs.Patterns.{Re, find_str, default_config}
use Rattle.regex_syntax.specs.Brackets.{Nested}
use Rattle.regex_syntax.specs.Grammar.{Names, read}

-- what was read, unless it is nested deeper than the crate allows
abbrev pub within_limit : Nested Re × Names → Option Re
within_limit found = if nat_le found.0.depth default_config.nest_limit then Some found.0.value else None

-- what the text stands for by the crate's grammar, under its default options
unfoldable pub meaning_of : List ℕ → Option Re
meaning_of text = option_and_then within_limit (read default_config text)

-- `\A(?:`, the text and `)\z`: matches of it begin where the searched text begins, and end where that ends
abbrev pub anchored : List ℕ → List ℕ
anchored text = codes "\\A(?:" ++ (text ++ codes ")\\z")

-- The text is a pattern by itself, and so it is between the anchors. By itself, so that no bracket of the text closes one
-- that it does not open, as in `a)|(b`.
abbrev pub is_pattern : List ℕ → Bool
is_pattern text = is_some (meaning_of text) && is_some (meaning_of (anchored text))

-- the crate finds the anchored text in these bytes
abbrev pub finds_in : List ℕ → List ℕ → Bool
finds_in text bytes = option_map_or (λ re. is_some (find_str re bytes 0)) (meaning_of (anchored text)) false

-- the whole of s matches the text
abbrev pub matches_whole : List ℕ → List ℕ → Bool
matches_whole text s = finds_in text (encode_utf8_all s)

-- the text between the anchors
abbrev pub unanchored : List ℕ → List ℕ
unanchored cs = take (length cs - 8) (drop 5 cs)

-- a search for re finds something exactly where the crate finds the anchored text
abbrev pub FindsSame : Re → List ℕ → Type 0
FindsSame re text = (bytes : List ℕ) → ((k : ℕ) → slice_index bytes k < 256) → is_some (find_str re bytes 0) ≡ finds_in text bytes
