use Rattle.std.proofs.Common.{◌≡◌, ◌++◌, drop}
use Rattle.data_set_trees.specs.Lifted.{with_slots}
use Rattle.data_set_typing.proofs.slots.with_slots.Given as goal

abbrev pub invariant-loop-operand : goal.invariant-loop-operand
invariant-loop-operand l = with_slots l.slots l.operands ≡ l.all ++ with_slots l.left (drop l.operand-index l.operands)
