use Rattle.held_index.proofs.PartLemmas.{span_of_part, part_ordered}
use Rattle.held_index.proofs.walk.Walk.span_of.Goals as goal

pub returns-clause-part : goal.returns-clause-part
returns-clause-part c = rw (c.count_up_to-from.ensures.count, c.count_up_to-to.ensures.count) (span_of_part c.args.self.now.want c.args.self.now.points c.count_up_to-from.ensures.walk c.args.part.now)

pub returns-clause-ordered : goal.returns-clause-ordered
returns-clause-ordered c = rw (c.count_up_to-from.ensures.count, c.count_up_to-to.ensures.count) (part_ordered c.args.self.now.want c.args.self.now.points c.args.part.now)
