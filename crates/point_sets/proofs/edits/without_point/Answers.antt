use Rattle.std.proofs.Common.{◌≡◌}
use Rattle.std.specs.FinMap.{remove}
use Rattle.point_sets.specs.DataSets.{of_points, Ascend}
use Rattle.point_sets.proofs.Points.{IfOk-as, ascend_without, map_without, map_within}
use Rattle.point_sets.proofs.edits.without_point.Goals as goal

pub returns-in-Ok-clause-ascend : goal.returns-in-Ok-clause-ascend
returns-in-Ok-clause-ascend c = IfOk-as Ascend _ c.remove_at.ensures (ascend_without c.args.points.now c.args.key.now c.in-Ok.place c.requires.ascend)

pub returns-in-Ok-clause-map : goal.returns-in-Ok-clause-map
returns-in-Ok-clause-map c = IfOk-as (λ after. of_points after ≡ remove (of_points c.args.points.now) c.args.key.now) _ c.remove_at.ensures (map_without c.args.points.now c.args.key.now c.in-Ok.place c.requires.ascend c.in-Ok.ensures.found)

pub returns-in-Err-clause-map : goal.returns-in-Err-clause-map
returns-in-Err-clause-map c = IfOk-as (λ after. of_points after ≡ remove (of_points c.args.points.now) c.args.key.now) _ c.copy.ensures (map_within c.args.points.now c.args.key.now c.in-Err.field-0 c.in-Err.ensures.absent)
