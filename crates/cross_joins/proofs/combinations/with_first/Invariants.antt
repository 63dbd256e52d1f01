use Rattle.std.proofs.Common.{◌≡◌, ◌∷◌, take}
use Rattle.cross_joins.specs.Rows.{rows_in, shared_row}
use Rattle.cross_joins.proofs.combinations.with_first.Given as goal

abbrev pub invariant-loop-other : goal.invariant-loop-other
invariant-loop-other l = rows_in l.longer ≡ shared_row l.row ∷ rows_in (take l.other-index l.combination)
