use Rattle.std.proofs.Common.{sym, ap, ◌∙◌}
use Rattle.std.specs.Option.{option_map, option_copied}
use Rattle.std.specs.List.{slice_get}
use Rattle.held_index.specs.Walks.{PointValues, point_values}
use Rattle.std.proofs.Common.{List}
use Rattle.held_index.proofs.Spans.{between_at}
use Rattle.held_index.proofs.PlanLemmas.{values_entry}
use Rattle.held_index.proofs.HoldingLemmas.{found_at_is, key_is}
use Rattle.held_index.proofs.held.Held.get.Goals as goal

pub returns-clause-value : goal.returns-clause-value
returns-clause-value g c =
    let walk = c.self.inside.walk in
    let at = point_values c.args.«at».now in
    let is = c.count_up_to-from.ensures.walk in
    rw (← c.self.view_is)
    (sym (values_entry (option_copied c.nth_between-found.result))
    ∙ ap (option_map (λ (p : PointValues). p.1)) (c.nth_between-found.ensures ∙ ap (λ (ps : List PointValues). slice_get ps 0) (between_at walk.want walk.points is at c.count_up_to-from.result c.count_up_to-to.result c.count_up_to-from.ensures.count c.count_up_to-to.ensures.count))
    ∙ found_at_is walk.want at walk.points is)

pub returns-clause-key : goal.returns-clause-key
returns-clause-key g c =
    let walk = c.self.inside.walk in
    let at = point_values c.args.«at».now in
    let is = c.count_up_to-from.ensures.walk in
    key_is walk.want at (option_copied c.nth_between-found.result) walk.points
    (c.nth_between-found.ensures ∙ ap (λ (ps : List PointValues). slice_get ps 0) (between_at walk.want walk.points is at c.count_up_to-from.result c.count_up_to-to.result c.count_up_to-from.ensures.count c.count_up_to-to.ensures.count))
