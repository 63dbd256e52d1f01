use Rattle.std.proofs.Common.{◌≡◌, ◌++◌, map, take}
use Rattle.data_set_trees.specs.checked.Expressions.{expression_of, expressions}
use Rattle.data_set_trees.specs.checked.Scripts.{names_in_all}
use Rattle.transform_nodes.proofs.build.+names.Given as goal

abbrev pub invariant-push_all_names-loop-tree : goal.invariant-push_all_names-loop-tree
invariant-push_all_names-loop-tree l = l.names.items ≡ l.initial.names.items ++ names_in_all (expressions (map expression_of (take l.tree-index l.trees)))
