use Rattle.std.proofs.Common.{sym, ◌∙◌}
use Rattle.point_sets.proofs.Points.{entry_seen, slice_get-entries}
use Rattle.point_sets.proofs.point_set.PointSet.nth.Goals as goal

pub returns : goal.returns
returns c = rw (← c.self.view_is) (entry_seen _ _ c.nth.ensures ∙ sym (slice_get-entries c.self.inside.points c.args.n c.self.invariant))
