-- What operators want held of their operands (docs/layers.md, "held_index").
use Rattle.std.specs.Prelude.{ℕ, List, [], map}
use Rattle.std.specs.List.{range_with_len}
use Rattle.held_index.specs.declared.want.Want.{Want}

-- the operand of this number in parts by these components, each in the order of the keys
abbrev pub in_parts : ℕ → List ℕ → Want
in_parts n components = record { operand = n; part = components; order = []; sums = [] }

-- or whole
abbrev pub whole : ℕ → Want
whole n = in_parts n []

-- so many operands, each whole
abbrev pub all_whole : ℕ → List Want
all_whole count = map whole (range_with_len 0 count)
