use Rattle.std.proofs.Common.{◌≡◌, rules, sym, ◌∙◌, map}
use Rattle.std.specs.Arc.{arc_value}
use Rattle.point_sets.proofs.Points.{entries-of_points, entries_seen}
use Rattle.point_sets.proofs.point_set.PointSet.points.Goals as goal

pub returns : goal.returns
returns c =
    let all : map arc_value c.push_to.new.all.items ≡ c.self.inside.points = search rules in
    rw (← c.self.view_is) (entries_seen c.push_to.new.all.items c.self.inside.points all ∙ sym (entries-of_points c.self.inside.points c.self.invariant))
