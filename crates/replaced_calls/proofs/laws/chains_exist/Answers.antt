use Rattle.replaced_calls.proofs.Chains.{chain_to}
use Rattle.replaced_calls.proofs.laws.chains_exist.Goals as goal

pub returns : goal.returns
returns c = chain_to
