use Rattle.replaced_calls.proofs.ScriptChains.{script_orders_agree}
use Rattle.replaced_calls.proofs.laws.script_orders_agree.Goals as goal

pub returns : goal.returns
returns c = script_orders_agree
