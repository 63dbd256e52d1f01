use Rattle.std.proofs.Common.{◌+◌, ◌*◌, ◌≤◌, length, map, take}
use Rattle.std.specs.Arc.{arc_value}
use Rattle.std.specs.List.{flat_map, sum_by}
use Rattle.point_sets.specs.declared.delta.Change.{Change}
use Rattle.pair_ops.specs.Noted.{part_steps}
use Rattle.inner_joins.specs.Noted.{held_for, keys_met, Notes}
use Rattle.inner_joins.proofs.notes.note_partner.Given as goal

-- the changes so far are noted, and their parts gone through
abbrev pub invariant-loop-change : goal.invariant-loop-change
invariant-loop-change g l = record {
  noted : Notes l.plan l.held (map arc_value l.news) (flat_map (λ (c : Change). keys_met l.plan l.held l.number c.key) (take l.change-index l.change-items)) l.fn.draft l.draft;
  steps : l.steps ≤ l.fn.steps + (length l.plan.operands + 1) * sum_by (λ (c : Change). part_steps (held_for l.plan l.held l.number) c.key) (take l.change-index l.change-items);
}
