use Rattle.std.proofs.Common.{◌≡◌, [], drop}
use Rattle.data_set_typing.specs.Kinds.{operands_fit}
use Rattle.data_set_typing.proofs.call.Call.operands_fit.Given as goal

abbrev pub invariant-loop-operand : goal.invariant-loop-operand
invariant-loop-operand l = operands_fit l.self.form.now l.self.place l.self.operands.now [] l.self.operands.now ≡ operands_fit l.self.form.now l.self.place l.self.operands.now l.before (drop l.operand-index l.self.operands.now)
