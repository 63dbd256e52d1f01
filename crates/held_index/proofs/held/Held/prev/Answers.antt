use Rattle.std.proofs.Common.{None, ap, ◌∙◌}
use Rattle.std.specs.List.{last_or}
use Rattle.held_index.specs.Walks.{point_values}
use Rattle.held_index.proofs.Spans.{between_before}
use Rattle.held_index.proofs.held.Held.prev.Goals as goal

pub returns-clause-found : goal.returns-clause-found
returns-clause-found g c =
    let walk = c.self.inside.walk in
    rw (← c.self.view_is)
    (c.last_between-found.ensures ∙ ap (last_or None) (between_before walk.want walk.points c.count_up_to-from.ensures.walk (point_values c.args.«at».now) c.count_up_to-from.result c.count_up_to-to.result c.count_up_to-from.ensures.count c.count_up_to-to.ensures.count))
