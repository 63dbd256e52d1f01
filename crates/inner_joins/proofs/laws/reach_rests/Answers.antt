use Rattle.inner_joins.specs.ReachLaws.{no_reach}
use Rattle.inner_joins.proofs.laws.reach_rests.Goals as goal

pub returns : goal.returns
returns c = no_reach
