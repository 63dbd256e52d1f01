use Rattle.replaced_calls.proofs.Written.{chain_ends}
use Rattle.replaced_calls.proofs.laws.orders_agree.Goals as goal

pub returns : goal.returns
returns c = chain_ends
