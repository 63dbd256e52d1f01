use Rattle.std.proofs.Common.{List, ap, ◌∙◌}
use Rattle.std.specs.List.{slice_get}
use Rattle.held_index.specs.Walks.{PointValues}
use Rattle.held_index.proofs.Spans.{part_between}
use Rattle.held_index.proofs.held.Held.nth_in.Goals as goal

pub returns-clause-found : goal.returns-clause-found
returns-clause-found g c =
    let walk = c.self.inside.walk in
    let span = c.span_of-from.result in
    rw (← c.self.view_is)
    (c.nth_between-found.ensures ∙ ap (λ (ps : List PointValues). slice_get ps c.args.n) (part_between walk.want walk.points c.span_of-from.ensures.walk c.args.part.now span.0 span.1 c.span_of-from.ensures.part))
