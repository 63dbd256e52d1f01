use Rattle.scalar_trees.specs.typing.Scalars.{meaning}
use Rattle.operator_typing.proofs.Steps.{passed_on}
use Rattle.scalar_trees.specs.typing.Scalars.{visited}
use Rattle.std.proofs.Common.{map}
use Rattle.component_typing.proofs.Visits.{visited_next, visited_stops}
use Rattle.component_typing.proofs.checker.Checker.visit.Goals as goal

pub loop-tree-preserved : goal.loop-tree-preserved
loop-tree-preserved g c =
    visited_next c.args.self.now.scope.now c.args.self.now.basis meaning c.args.trees.now c.loop-tree.tree-index c.tree-item.result c.loop-tree-test.true c.tree-item.is c.loop-tree.invariant (c.in_ok-visit_one.ensures {u = tt}).ok

pub returns-in_err-visit_one-clause-err : goal.returns-in_err-visit_one-clause-err
returns-in_err-visit_one-clause-err g c =
    passed_on (visited (map meaning c.args.trees.now) c.args.self.now.scope.now c.args.self.now.basis) c.from_residual.result c.in_err-visit_one.field-0.0
    (visited_stops c.args.self.now.scope.now c.args.self.now.basis meaning c.args.trees.now c.loop-tree.tree-index c.tree-item.result c.loop-tree-test.true c.tree-item.is c.in_err-visit_one.field-0.0 c.loop-tree.invariant c.in_err-visit_one.ensures.err) c.from_residual.ensures.1
