use Rattle.std.proofs.Common.{◌+◌, ◌*◌, ◌≤◌, length, map, take}
use Rattle.std.specs.Arc.{arc_value}
use Rattle.held_index.specs.Walks.{PointValues}
use Rattle.inner_joins.specs.Rules.{key_from}
use Rattle.inner_joins.specs.Noted.{points_met, Notes}
use Rattle.inner_joins.proofs.notes.note_partner_change.Given as goal

-- the points so far are noted, with a look for each and one at each operand
abbrev pub invariant-loop-n : goal.invariant-loop-n
invariant-loop-n g l = record {
  noted : Notes l.plan l.held (map arc_value l.news) (map (λ (p : PointValues). key_from l.plan p.0) (take l.n (points_met l.plan l.held l.number l.change.key))) l.fn.draft l.draft;
  steps : l.steps ≤ l.fn.steps + (1 + (2 * length l.plan.operands + 2) * l.n);
}
