use Rattle.std.proofs.Common.{◌≡◌, ◌+◌, ◌*◌, ◌≤◌, ◌++◌, [], take}
use Rattle.held_index.specs.Holdings.{part_of}
use Rattle.cross_joins.specs.Rows.{kept_rows, rows_in}
use Rattle.cross_joins.proofs.rows.push_all_kept.Given as goal

-- the points so far are put down, with a look for each
abbrev pub invariant-loop-n : goal.invariant-loop-n
invariant-loop-n g l = record {
  rows : rows_in l.rows ≡ rows_in l.fn.rows ++ kept_rows l.news (take l.n (part_of l.held.want [] l.held.content));
  steps : l.steps ≤ l.fn.steps + (1 + 2 * l.n);
}
