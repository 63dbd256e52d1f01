use Rattle.cross_joins.specs.Reach.{no_reach}
use Rattle.cross_joins.proofs.laws.reach_rests.Goals as goal

pub returns : goal.returns
returns c = no_reach
