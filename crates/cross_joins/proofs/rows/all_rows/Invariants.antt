use Rattle.std.proofs.Common.{◌≡◌, ◌+◌, ◌≤◌, map, take, zip}
use Rattle.std.specs.Arc.{arc_value}
use Rattle.std.specs.List.{sum_by}
use Rattle.cross_joins.specs.Reach.{walk_steps}
use Rattle.cross_joins.specs.Rows.{lists_in, rows_of}
use Rattle.cross_joins.proofs.rows.all_rows.Given as goal

-- the operands so far are gone through
abbrev pub invariant-loop-i : goal.invariant-loop-i
invariant-loop-i g l = record {
  rows : lists_in l.all ≡ map (λ q. rows_of q.0 q.1) (take l.i (zip l.held (map arc_value l.news)));
  steps : l.steps ≤ l.fn.steps + sum_by walk_steps (take l.i l.held);
}
