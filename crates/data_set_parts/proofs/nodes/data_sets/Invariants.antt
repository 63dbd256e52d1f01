use Rattle.std.proofs.Common.{◌≡◌, ◌++◌, length}
use Rattle.data_set_trees.specs.Trees.{data_sets}
use Rattle.data_set_parts.proofs.nodes.data_sets.Given as goal

abbrev pub invariant-loop-operand : goal.invariant-loop-operand
invariant-loop-operand l = data_sets l.fn.operands ≡ l.sets ++ data_sets l.operands

abbrev pub decreases-loop-operand : goal.decreases-loop-operand
decreases-loop-operand l = length l.operands
