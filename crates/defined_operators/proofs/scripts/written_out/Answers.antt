use Rattle.std.proofs.Common.{ap}
use Rattle.replaced_calls.specs.Scripts.{calls_replaced, written_out}
use Rattle.defined_operators.proofs.Answered.{script_answered}
use Rattle.defined_operators.proofs.scripts.written_out.Goals as goal

pub returns : goal.returns
returns c = script_answered c.calls_replaced.result (calls_replaced c.in_ok-sorted.sorted) (written_out c.args.script.now) (ap calls_replaced c.in_ok-sorted.ensures) c.calls_replaced.ensures
