use Rattle.scalar_trees.specs.typing.Scalars.{operand_meaning}
use Rattle.operator_typing.proofs.Steps.{passed_on}
use Rattle.scalar_trees.specs.typing.Scalars.{visited}
use Rattle.std.proofs.Common.{map}
use Rattle.component_typing.proofs.Visits.{visited_next, visited_stops}
use Rattle.component_typing.proofs.checker.Checker.visit_operands.Goals as goal

pub loop-operand-preserved : goal.loop-operand-preserved
loop-operand-preserved g c =
    visited_next c.args.self.now.scope.now c.args.self.now.basis operand_meaning c.args.operands.now c.loop-operand.operand-index c.operand-item.result c.loop-operand-test.true c.operand-item.is c.loop-operand.invariant (c.in_ok-visit_operand.ensures {u = tt}).ok

pub returns-in_err-visit_operand-clause-err : goal.returns-in_err-visit_operand-clause-err
returns-in_err-visit_operand-clause-err g c =
    passed_on (visited (map operand_meaning c.args.operands.now) c.args.self.now.scope.now c.args.self.now.basis) c.from_residual.result c.in_err-visit_operand.field-0.0
    (visited_stops c.args.self.now.scope.now c.args.self.now.basis operand_meaning c.args.operands.now c.loop-operand.operand-index c.operand-item.result c.loop-operand-test.true c.operand-item.is c.in_err-visit_operand.field-0.0 c.loop-operand.invariant c.in_err-visit_operand.ensures.err) c.from_residual.ensures.1
