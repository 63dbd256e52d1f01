use Rattle.std.proofs.Common.{◌≡◌, true, take}
use Rattle.std.specs.List.{All, list_all}
use Rattle.built_scripts.specs.Built.{is_tree_built, IsTreeStructured}
use Rattle.built_scripts.proofs.scripts.+built.Given as goal

abbrev pub invariant-are_trees_built-loop-tree : goal.invariant-are_trees_built-loop-tree
invariant-are_trees_built-loop-tree l = record {
  built : list_all is_tree_built (take l.tree-index l.trees) ≡ true;
  structured : All IsTreeStructured (take l.tree-index l.trees);
}
