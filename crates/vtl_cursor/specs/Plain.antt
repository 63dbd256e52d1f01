-- Reading with each part that may be left out read by itself.
use Rattle.std.specs.Prelude.{Option, None, if◌then◌else◌}
use Rattle.std.proofs.Common.{inl, inr}
use Rattle.vtl_grammar.specs.Rules.{Rule, mark, name, integer, number, text, part, ◌▸◌, option, suffix, either, repeated, prefixed, here, Prefix, Part, OfPart, Counts, Of, At, Text, first_place}
use Rattle.vtl_grammar.specs.Reading.{Reader, got, mapped, both, choice, some, maybe, firsts, has_prefix, read_mark, read_name, read_integer, read_number, read_text, read_more, read_prefix}

-- the two tokens of a prefix, where they stand there
abbrev pub maybe_prefix : Prefix → Reader (Option (At Text))
maybe_prefix p ts = if has_prefix p ts then mapped some (read_prefix p ts) else got None 0 ts

-- the reader of the grammar, which reads what may be left out, and then what is behind it
abbrev pub read_plain : Counts → ((q : Part) → Reader (OfPart q)) → (g : Rule) → Reader (Of g)
read_plain L inner (mark m) = read_mark m
read_plain L inner name = read_name
read_plain L inner integer = read_integer
read_plain L inner number = read_number
read_plain L inner text = read_text
read_plain L inner (part q) = inner q
read_plain L inner (g ▸ h) = both (read_plain L inner g) (read_plain L inner h)
read_plain L inner (option g h) = both (maybe (firsts g) (read_plain L inner g)) (read_plain L inner h)
read_plain L inner (suffix g h) = both (read_plain L inner g) (maybe (firsts h) (read_plain L inner h))
read_plain L inner (either g h) = choice (firsts g) (λ ts. mapped inl (read_plain L inner g ts)) (λ ts. mapped inr (read_plain L inner h ts))
read_plain L inner (repeated l g h) = both (read_plain L inner g) (read_more (firsts h) l (read_plain L inner h) (L l))
read_plain L inner (prefixed p g) = both (maybe_prefix p) (read_plain L inner g)
read_plain L inner (here g) = λ ts. mapped (λ v. (first_place ts, v)) (read_plain L inner g ts)
