use Rattle.std.proofs.Common.{◌++◌, map, take, List, sym, ◌∙◌, ap}
use Rattle.std.proofs.lemmas.List.{append_assoc}
use Rattle.data_set_trees.specs.declared.tree.Source.{Source}
use Rattle.data_set_trees.specs.checked.Expressions.{expression_of, expressions}
use Rattle.data_set_trees.specs.checked.Scripts.{names_in, names_in_all}
use Rattle.transform_nodes.proofs.BuildLemmas.{names_in_all-more}
use Rattle.transform_nodes.proofs.build.+names.Goals as goal

pub push_all_names-loop-tree-preserved : goal.push_all_names-loop-tree-preserved
push_all_names-loop-tree-preserved t c =
    let before = c.args.names.now.items in
    let i = c.loop-tree.tree-index in
    let trees = c.args.trees.now in
    let tree = c.tree-item.result in
    c.in_ok-push_names.ensures
    ∙ ap (λ (ns : List Source). ns ++ names_in (expression_of tree)) c.loop-tree.invariant
    ∙ append_assoc before (names_in_all (expressions (map expression_of (take i trees)))) (names_in (expression_of tree))
    ∙ ap (λ (ns : List Source). before ++ ns) (sym (names_in_all-more trees i tree c.loop-tree-test.true c.tree-item.is))
