use Rattle.std.specs.Arc.{arc_value}
use Rattle.std.proofs.Common.{◌≡◌}
use Rattle.point_sets.specs.DataSets.{of_points, Ascend}
use Rattle.std.specs.FinMap.{insert}
use Rattle.point_sets.proofs.Points.{IfOk-as, ascend_over, ascend_beside, map_over, map_beside}
use Rattle.point_sets.proofs.edits.with_point.Goals as goal

pub returns-in-Ok-clause-ascend : goal.returns-in-Ok-clause-ascend
returns-in-Ok-clause-ascend c = IfOk-as Ascend _ c.replace_at.ensures (ascend_over c.args.points.now (arc_value c.args.point) c.in-Ok.place c.requires.ascend (rw c.deref.ensures at c.in-Ok.ensures.found))

pub returns-in-Ok-clause-map : goal.returns-in-Ok-clause-map
returns-in-Ok-clause-map c = IfOk-as (λ after. of_points after ≡ insert (of_points c.args.points.now) (arc_value c.args.point).key (arc_value c.args.point).rest) _ c.replace_at.ensures (map_over c.args.points.now (arc_value c.args.point) c.in-Ok.place c.requires.ascend (rw c.deref.ensures at c.in-Ok.ensures.found))

pub returns-in-Err-clause-ascend : goal.returns-in-Err-clause-ascend
returns-in-Err-clause-ascend c = IfOk-as Ascend _ c.insert_at.ensures (ascend_beside c.args.points.now (arc_value c.args.point) c.in-Err.place c.requires.ascend (rw c.deref.ensures at c.in-Err.ensures.absent))

pub returns-in-Err-clause-map : goal.returns-in-Err-clause-map
returns-in-Err-clause-map c = IfOk-as (λ after. of_points after ≡ insert (of_points c.args.points.now) (arc_value c.args.point).key (arc_value c.args.point).rest) _ c.insert_at.ensures (map_beside c.args.points.now (arc_value c.args.point) c.in-Err.place (rw c.deref.ensures at c.in-Err.ensures.absent))
