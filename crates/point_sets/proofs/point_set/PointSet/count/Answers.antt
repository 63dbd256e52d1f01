use Rattle.point_sets.proofs.Points.{len-of_points}
use Rattle.point_sets.proofs.point_set.PointSet.count.Goals as goal

pub returns : goal.returns
returns c = rw (← c.self.view_is, len-of_points c.self.inside.points c.self.invariant) c.len.ensures
