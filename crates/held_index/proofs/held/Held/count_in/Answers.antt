use Rattle.held_index.proofs.Spans.{part_count}
use Rattle.held_index.proofs.held.Held.count_in.Goals as goal

pub returns-clause-count : goal.returns-clause-count
returns-clause-count g c =
    let walk = c.self.inside.walk in
    let span = c.span_of-from.result in
    rw (← c.self.view_is) (part_count walk.want walk.points c.span_of-from.ensures.walk c.args.part.now span.0 span.1 c.span_of-from.ensures.part c.span_of-from.ensures.within)
