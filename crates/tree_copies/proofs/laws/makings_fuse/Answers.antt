use Rattle.tree_copies.proofs.Fused.{fused}
use Rattle.tree_copies.proofs.laws.makings_fuse.Goals as goal

pub returns : goal.returns
returns c = fused
