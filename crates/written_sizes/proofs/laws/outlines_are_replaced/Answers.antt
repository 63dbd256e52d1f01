use Rattle.written_sizes.proofs.Writing.{outlines_replaced}
use Rattle.written_sizes.proofs.laws.outlines_are_replaced.Goals as goal

pub returns : goal.returns
returns c = outlines_replaced
