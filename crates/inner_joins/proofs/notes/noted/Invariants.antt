use Rattle.std.proofs.Common.{◌+◌, ◌≤◌, length, map, take}
use Rattle.std.specs.Arc.{arc_value}
use Rattle.std.specs.List.{flat_map, range_with_len, sum_by}
use Rattle.data_model.specs.Drafts.{nothing}
use Rattle.inner_joins.specs.Noted.{keys_of, Notes}
use Rattle.inner_joins.specs.Reach.{steps_for}
use Rattle.inner_joins.proofs.notes.noted.Given as goal

-- the changes of the operands so far are noted, within the steps for them
abbrev pub invariant-loop-number : goal.invariant-loop-number
invariant-loop-number g l = record {
  noted : Notes l.plan l.held (map arc_value l.news) (flat_map (keys_of l.plan l.held (map arc_value l.news)) (take l.number (range_with_len 0 (length l.plan.operands)))) nothing l.draft;
  steps : l.steps ≤ l.fn.steps + sum_by (steps_for l.plan l.held (map arc_value l.news)) (take l.number (range_with_len 0 (length l.plan.operands)));
}
