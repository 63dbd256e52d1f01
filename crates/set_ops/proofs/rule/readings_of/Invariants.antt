use Rattle.std.proofs.Common.{◌≡◌, ◌++◌, drop}
use Rattle.set_ops.specs.Readings.{readings_of}
use Rattle.set_ops.proofs.rule.readings_of.Given as goal

abbrev pub invariant-loop-operand : goal.invariant-loop-operand
invariant-loop-operand l = readings_of l.operands l.structure ≡ l.readings.items ++ readings_of (drop l.operand-index l.operands) l.structure
