use Rattle.std.proofs.Common.{◌+◌, ◌*◌, ◌≤◌, length, map, take}
use Rattle.std.specs.Arc.{arc_value}
use Rattle.point_sets.specs.declared.delta.Change.{Change}
use Rattle.inner_joins.specs.Rules.{key_from}
use Rattle.inner_joins.specs.Noted.{Notes}
use Rattle.inner_joins.proofs.notes.note_main.Given as goal

-- the keys of the changes so far are noted, with a look at each operand for each
abbrev pub invariant-loop-change : goal.invariant-loop-change
invariant-loop-change g l = record {
  noted : Notes l.plan l.held (map arc_value l.news) (map (λ (c : Change). key_from l.plan c.key) (take l.change-index l.change-items)) l.fn.draft l.draft;
  within : l.change-index ≤ length l.change-items;
  steps : l.steps ≤ l.fn.steps + 2 * length l.plan.operands * l.change-index;
}
