use Rattle.replaced_calls.proofs.Enough.{operators_end}
use Rattle.replaced_calls.proofs.laws.operators_end.Goals as goal

pub returns : goal.returns
returns c = operators_end
