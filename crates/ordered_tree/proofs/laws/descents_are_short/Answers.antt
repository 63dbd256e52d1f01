use Rattle.ordered_tree.proofs.Depths.{descent-length}
use Rattle.ordered_tree.proofs.laws.descents_are_short.Goals as goal

pub returns : goal.returns
returns c = descent-length
