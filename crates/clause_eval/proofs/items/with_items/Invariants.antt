use Rattle.std.proofs.Common.{◌≡◌, ◌++◌, drop}
use Rattle.scalar_meaning.specs.Rows.{point_row}
use Rattle.clause_eval.proofs.Puts.{put_from}
use Rattle.clause_eval.proofs.items.with_items.Given as goal

abbrev pub invariant-loop-item : goal.invariant-loop-item
invariant-loop-item l = put_from (point_row l.point.key l.point.rest) l.items (l.point.key ++ l.point.rest) ≡ put_from (point_row l.point.key l.point.rest) (drop l.item-index l.items) l.values
