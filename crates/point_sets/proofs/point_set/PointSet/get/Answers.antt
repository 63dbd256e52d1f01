use Rattle.std.proofs.Common.{sym}
use Rattle.point_sets.proofs.Points.{get_at, key_at, get_gap}
use Rattle.point_sets.proofs.point_set.PointSet.get.Goals as goal

pub returns-in-Ok : goal.returns-in-Ok
returns-in-Ok c = record {
  value = rw (← c.self.view_is) (get_at c.self.inside.points c.args.key.now c.in-Ok.place _ c.self.invariant c.in-Ok.ensures.found c.nth.ensures);
  key = key_at c.self.inside.points c.args.key.now c.in-Ok.place _ c.in-Ok.ensures.found c.nth.ensures;
}

pub returns-in-Err-clause-value : goal.returns-in-Err-clause-value
returns-in-Err-clause-value c = rw (← c.self.view_is) (sym (get_gap c.self.inside.points c.args.key.now c.in-Err.field-0 c.in-Err.ensures.absent))
