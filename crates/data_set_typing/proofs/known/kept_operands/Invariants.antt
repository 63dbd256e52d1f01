use Rattle.std.proofs.Common.{◌≡◌, ◌++◌, drop}
use Rattle.data_set_typing.specs.Known.{by_structures}
use Rattle.data_set_typing.proofs.known.kept_operands.Given as goal

abbrev pub invariant-loop-operand : goal.invariant-loop-operand
invariant-loop-operand l = by_structures l.operands ≡ l.all ++ by_structures (drop l.operand-index l.operands)
