use Rattle.std.proofs.Common.{◌≡◌, take}
use Rattle.cross_joins.specs.Combinations as meant
use Rattle.cross_joins.specs.Rows.{lists_in, rows_in}
use Rattle.cross_joins.proofs.combinations.with_each_first.Given as goal

abbrev pub invariant-loop-row : goal.invariant-loop-row
invariant-loop-row l = lists_in l.all ≡ meant.with_each_first (rows_in (take l.row-index l.rows)) (lists_in l.combinations)
