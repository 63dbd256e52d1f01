use Rattle.std.proofs.Common.{map, take}
use Rattle.transform_nodes.specs.Building.{AreBuilt}
use Rattle.transform_nodes.specs.Trees.{plain}
use Rattle.transform_nodes.proofs.build.+build.Given as goal

abbrev pub invariant-children_of-loop-tree : goal.invariant-children_of-loop-tree
invariant-children_of-loop-tree l = AreBuilt l.sources (take l.tree-index l.trees) (map plain l.children.items)
