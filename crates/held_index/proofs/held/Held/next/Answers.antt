use Rattle.std.proofs.Common.{List, ap, ◌∙◌}
use Rattle.std.specs.List.{slice_get}
use Rattle.held_index.specs.Walks.{PointValues, point_values}
use Rattle.held_index.proofs.Spans.{between_after}
use Rattle.held_index.proofs.held.Held.next.Goals as goal

pub returns-clause-found : goal.returns-clause-found
returns-clause-found g c =
    let walk = c.self.inside.walk in
    rw (← c.self.view_is)
    (c.nth_between-found.ensures ∙ ap (λ (ps : List PointValues). slice_get ps 0) (between_after walk.want walk.points c.count_up_to-from.ensures.walk (point_values c.args.«at».now) c.count_up_to-from.result c.count_up_to-to.result c.count_up_to-from.ensures.count c.count_up_to-to.ensures.count))
