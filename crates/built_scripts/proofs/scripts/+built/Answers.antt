use Rattle.std.proofs.Common.{◌&&◌, List, map, sym, ◌∙◌, ap, subst, refl}
use Rattle.std.specs.List.{All, list_all}
use Rattle.vtl_values.specs.Structures.{IsStructure}
use Rattle.vtl_values.specs.declared.structure.Component.{Component}
use Rattle.data_set_trees.specs.declared.tree.DataSetTree.{DataSetTree}
use Rattle.data_set_trees.specs.checked.Expressions.{expression_of, expressions}
use Rattle.built_scripts.specs.Built.{each_all_built, is_built, is_tree_built, IsTreeStructured}
use Rattle.built_scripts.proofs.Built.{each-built, each-structured}
use Rattle.built_scripts.proofs.Lists.{all-more, true-more}
use Rattle.built_scripts.proofs.scripts.+built.Goals as goal

pub are_trees_built-loop-tree-preserved : goal.are_trees_built-loop-tree-preserved
are_trees_built-loop-tree-preserved t c =
    let trees = c.args.trees.now in
    let i = c.loop-tree.tree-index in
    let tree = c.tree-item.result in
    record {
      built = true-more is_tree_built trees i tree c.loop-tree-test.true c.tree-item.is c.loop-tree.invariant.built (sym c.if-not-is_tree_built.ensures.built);
      structured = all-more IsTreeStructured trees i tree c.loop-tree-test.true c.tree-item.is c.loop-tree.invariant.structured (c.if-not-is_tree_built.ensures.structured refl);
    }

pub is_node_built-returns-then-is_built-clause-built : goal.is_node_built-returns-then-is_built-clause-built
is_node_built-returns-then-is_built-clause-built t c =
    let children = c.args.node.now.children in
    c.are_trees_built.ensures.built
    ∙ ap (λ (ts : List DataSetTree). list_all is_tree_built ts) c.as_slice-then-is_built.ensures
    ∙ sym (each-built children)
    ∙ ap (λ b. b && each_all_built (expressions (map expression_of children))) (c.if-is_built.ensures ∙ ap is_built c.get.ensures)

pub is_node_built-returns-then-is_built-clause-structured : goal.is_node_built-returns-then-is_built-clause-structured
is_node_built-returns-then-is_built-clause-structured t c = λ built. (
  subst (λ (ss : List (List Component)). All IsStructure ss) c.as_slice.ensures c.have_structures.ensures.operands,
  c.have_structures.ensures.result,
  each-structured c.args.node.now.children (subst (λ (ts : List DataSetTree). All IsTreeStructured ts) c.as_slice-then-is_built.ensures (c.are_trees_built.ensures.structured built)),
)
