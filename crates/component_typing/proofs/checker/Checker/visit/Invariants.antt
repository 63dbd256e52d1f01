use Rattle.std.proofs.Common.{◌≡◌, Ok, map, take}
use Rattle.scalar_trees.specs.typing.Scalars.{visited, meaning}
use Rattle.component_typing.proofs.checker.Checker.visit.Given as goal

abbrev pub invariant-loop-tree : goal.invariant-loop-tree
invariant-loop-tree g l = visited (map meaning (take l.tree-index l.trees)) l.self.scope.now l.self.basis ≡ Ok tt
