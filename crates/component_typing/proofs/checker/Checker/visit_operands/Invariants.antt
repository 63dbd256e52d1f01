use Rattle.std.proofs.Common.{◌≡◌, Ok, map, take}
use Rattle.scalar_trees.specs.typing.Scalars.{visited, operand_meaning}
use Rattle.component_typing.proofs.checker.Checker.visit_operands.Given as goal

abbrev pub invariant-loop-operand : goal.invariant-loop-operand
invariant-loop-operand g l = visited (map operand_meaning (take l.operand-index l.operands)) l.self.scope.now l.self.basis ≡ Ok tt
