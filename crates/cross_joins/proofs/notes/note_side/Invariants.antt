use Rattle.std.proofs.Common.{◌≡◌, fold}
use Rattle.std.specs.Prelude.{flat_map}
use Rattle.std.specs.List.{range_with_len}
use Rattle.cross_joins.specs.Combinations.{first_changed_at}
use Rattle.cross_joins.specs.Noted.{noted_combination}
use Rattle.cross_joins.specs.Rows.{lists_in}
use Rattle.cross_joins.proofs.notes.note_side.Given as goal

-- the combinations with their first changed row from the operands so far are noted
abbrev pub invariant-loop-first : goal.invariant-loop-first
invariant-loop-first l = l.draft ≡ fold (noted_combination l.plan) l.fn.draft (flat_map (first_changed_at l.side (lists_in l.rows)) (range_with_len 0 l.first))
