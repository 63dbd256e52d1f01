use Rattle.std.proofs.Common.{◌≡◌, ◌++◌, map, take}
use Rattle.point_sets.specs.Changes.{change_entry}
use Rattle.cross_joins.specs.Rows.{rows_in, changed_row}
use Rattle.cross_joins.proofs.rows.push_all_changed.Given as goal

abbrev pub invariant-loop-change : goal.invariant-loop-change
invariant-loop-change l = rows_in l.rows ≡ rows_in l.fn.rows ++ map changed_row (map change_entry (take l.change-index l.change-items))
