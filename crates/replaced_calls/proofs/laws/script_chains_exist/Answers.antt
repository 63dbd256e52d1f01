use Rattle.replaced_calls.proofs.ScriptChains.{script_chains_exist}
use Rattle.replaced_calls.proofs.laws.script_chains_exist.Goals as goal

pub returns : goal.returns
returns c = script_chains_exist
