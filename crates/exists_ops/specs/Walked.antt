-- Which points of the first operand are gone through.
use Rattle.std.specs.Prelude.{ℕ, ◌+◌, ◌*◌, List, [], map, flat_map, length, if◌then◌else◌}
use Rattle.std.specs.List.{sum_by}
use Rattle.std.specs.BTreeMap.{BTreeMap}
use Rattle.vtl_values.specs.declared.value.Value.{Value}
use Rattle.held_index.specs.Holdings.{Holding, part_of}
use Rattle.exists_ops.specs.Noted.{differ}
use Rattle.exists_ops.specs.Parts.{has_part, has_part_after, shift_at}
use Rattle.exists_ops.specs.declared.notes.Met.{Met}
use Rattle.exists_ops.specs.declared.parts.Shift.{Shift}

-- whether the second operand, which is held so, had a point in a part, and has one after what is kept of it
abbrev pub met_in : Holding → BTreeMap (List Value) Shift → List Value → Met
met_in b shifts part = record { was = has_part b.want b.content part; is = has_part_after b.want b.content part (shift_at shifts part) }

-- the keys of the points that are held in a part
abbrev pub keys_in : Holding → List Value → List (List Value)
keys_in a part = map (λ p. p.0) (part_of a.want part a.content)

-- those of the first operand, where the second one's first point in the part comes, or its last one goes
abbrev pub walked_in : Holding → Holding → List Value × Shift → List (List Value)
walked_in a b s = if differ (has_part b.want b.content s.0) (has_part_after b.want b.content s.0 s.1) then keys_in a s.0 else []

abbrev pub walked : Holding → Holding → List (List Value × Shift) → List (List Value)
walked a b shifts = flat_map (walked_in a b) shifts

-- the steps for a part, and for all: a look at each operand, and two steps for each point of the first one
abbrev pub part_cost : Holding → List Value → ℕ
part_cost a part = 2 + 2 * length (part_of a.want part a.content)

abbrev pub cost : Holding → List (List Value × Shift) → ℕ
cost a shifts = sum_by (λ s. part_cost a s.0) shifts
