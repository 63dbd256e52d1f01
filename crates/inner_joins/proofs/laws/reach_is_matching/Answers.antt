use Rattle.inner_joins.proofs.Counted.{matching}
use Rattle.inner_joins.proofs.laws.reach_is_matching.Goals as goal

pub returns : goal.returns
returns c = λ j xs news on long. matching j xs news on long
