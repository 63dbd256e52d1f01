use Rattle.std.proofs.Common.{ap, ◌∙◌}
use Rattle.std.specs.List.{slice_index}
use Rattle.held_index.specs.Sums.{sum_over}
use Rattle.held_index.proofs.Spans.{part_between}
use Rattle.held_index.proofs.held.Held.sum_in.Goals as goal

pub returns-clause-sum : goal.returns-clause-sum
returns-clause-sum g c =
    let walk = c.self.inside.walk in
    let span = c.span_of-from.result in
    rw (← c.self.view_is)
    (c.sum_between.ensures ∙ ap (sum_over (slice_index walk.want.sums c.args.which)) (part_between walk.want walk.points c.span_of-from.ensures.walk c.args.part.now span.0 span.1 c.span_of-from.ensures.part))
