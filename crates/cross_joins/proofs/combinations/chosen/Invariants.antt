use Rattle.std.proofs.Common.{◌≡◌, filter, take}
use Rattle.cross_joins.specs.Rows.{is_chosen, rows_in}
use Rattle.cross_joins.proofs.combinations.chosen.Given as goal

abbrev pub invariant-loop-row : goal.invariant-loop-row
invariant-loop-row l = rows_in l.all ≡ filter (is_chosen l.side l.place) (rows_in (take l.row-index l.rows))
