use Rattle.tree_copies.proofs.Fused.{stays}
use Rattle.tree_copies.proofs.laws.trees_stay.Goals as goal

pub returns : goal.returns
returns c = stays
