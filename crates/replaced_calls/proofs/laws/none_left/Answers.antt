use Rattle.replaced_calls.proofs.Gone.{none_left}
use Rattle.replaced_calls.proofs.laws.none_left.Goals as goal

pub returns : goal.returns
returns c = none_left
