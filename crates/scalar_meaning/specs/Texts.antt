-- What operators on texts give, which are lists of characters (docs/language.md, "Scalar operators").
use Rattle.std.specs.Prelude.{ℕ, pos, List, [], ◌++◌, length, Option, Some, None, unwrap_or}
use Rattle.std.specs.Option.{option_map}
use Rattle.vtl_values.specs.declared.value.Value.{Value}
use Rattle.vtl_values.specs.declared.value.Value.TheVariants.{Null, Truth, Integer, Text}
use Rattle.scalar_texts.specs.Places.{substring, place_of}
use Rattle.scalar_texts.specs.Replacing.{replaced}
use Rattle.scalar_texts.specs.Patterns.{matches_whole}
use Rattle.scalar_meaning.specs.Numbers.{integer_of}

-- a text made of a text; null of any other value
abbrev pub of_text : (List ℕ → List ℕ) → Value → Value
of_text f (Text cs) = Text (f cs)
of_text f _ = Null

-- VTL 2.0 Reference Manual, ||
abbrev pub joined : Value → Value → Value
joined (Text a) (Text b) = Text (a ++ b)
joined _ _ = Null

-- VTL 2.0 Reference Manual, length: none where the number of characters is out of range
abbrev pub characters : Value → Option Value
characters (Text cs) = option_map Integer (integer_of (pos (length cs)))
characters _ = Some Null

-- VTL 2.0 Reference Manual, instr: the least place of the part, 0 if it stands nowhere; none where that is out of range
abbrev pub place_in : Value → Value → Option Value
place_in (Text cs) (Text part) = option_map Integer (integer_of (pos (place_of cs part)))
place_in _ _ = Some Null

-- from a place on, and so many characters at most where a number is given
abbrev pub cut : Value → Value → Option Value → Value
cut (Text cs) (Integer start) None = Text (substring cs start None)
cut (Text cs) (Integer start) (Some (Integer count)) = Text (substring cs start (Some count))
cut _ _ _ = Null

-- VTL 2.0 Reference Manual, substr: from the first place where none is given
abbrev pub part_of : Value → Option Value → Option Value → Value
part_of v start count = cut v (unwrap_or start (Integer (pos 1))) count

-- VTL 2.0 Reference Manual, replace: by the empty text where none is given
abbrev pub replacing : Value → Value → Option Value → Value
replacing (Text cs) (Text old) None = Text (replaced cs old [])
replacing (Text cs) (Text old) (Some (Text new)) = Text (replaced cs old new)
replacing _ _ _ = Null

-- VTL 2.0 Reference Manual, match_characters: whether the whole text matches the pattern
abbrev pub matching : List ℕ → Value → Value
matching pattern (Text cs) = Truth (matches_whole pattern cs)
matching pattern _ = Null
