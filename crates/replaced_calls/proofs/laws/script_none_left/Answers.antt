use Rattle.replaced_calls.proofs.ScriptChains.{script_none_left}
use Rattle.replaced_calls.proofs.laws.script_none_left.Goals as goal

pub returns : goal.returns
returns c = script_none_left
