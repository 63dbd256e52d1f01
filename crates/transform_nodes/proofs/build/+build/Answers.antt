use Rattle.std.proofs.Common.{◌≡◌, ◌∷◌, ◌+◌, [], map, take, List, sym, ◌∙◌, ap, subst, rules}
use Rattle.std.proofs.lemmas.List.{map-append}
use denote.Param.Weighed.{most}
use Rattle.data_set_trees.proofs.tree.DataSetTree.TheLaws.{the_size}
use Rattle.data_set_trees.specs.declared.tree.DataSetTree.TheViews.{the_lemmas, size_is-DataSetNode}
use Rattle.data_set_trees.specs.declared.tree.Source.{Source}
use Rattle.data_set_trees.specs.declared.tree.DataSetTree.{DataSetTree}
use Rattle.data_set_trees.specs.checked.Expressions.{Expression, Named, expression_of, expression_of_node}
use Rattle.vtl_values.specs.declared.structure.Component.{Component}
use Rattle.data_set_trees.specs.checked.Operators.{an_operator, Operator, IsTyped}
use Rattle.held_index.specs.declared.want.Want.{Want}
use Rattle.operator_rules.specs.Rules.{AreWanted, wanted_of}
use Rattle.operator_rules.proofs.WantLemmas.{rule-wanted}
use Rattle.transform_nodes.specs.Building.{nothing_held, AllCanBuild, AreBuilt, IsBuilt}
use Rattle.transform_nodes.specs.Trees.{Plain, plain}
use Rattle.transform_nodes.specs.declared.node.Child.TheVariants.{Name}
use Rattle.transform_nodes.proofs.PlainLemmas.{plain-Name}
use Rattle.transform_nodes.proofs.BuildLemmas.{built-more, built-name, built-operator, can_build_operands, expression_of-Name, is_built-operator}
use Rattle.transform_nodes.proofs.build.+build.Goals as goal

pub children_of-loop-tree-preserved : goal.children_of-loop-tree-preserved
children_of-loop-tree-preserved t c =
    let sources = c.args.sources.now in
    let items = ap (map plain) c.in_ok-push.ensures.items ∙ map-append plain c.loop-tree.children.items (c.in_ok-child.child ∷ []) in
    subst (λ (ps : List Plain). AreBuilt sources (take (c.loop-tree.tree-index + 1) c.args.trees.now) ps) (sym items)
    (built-more sources c.args.trees.now c.loop-tree.tree-index (map plain c.loop-tree.children.items) c.tree-item.result (plain c.in_ok-child.child) c.loop-tree-test.true c.tree-item.is c.loop-tree.invariant c.in_ok-child.ensures)

pub tree_of-children_of-requires : goal.tree_of-children_of-requires
tree_of-children_of-requires t c =
    let d = c.decreases in
    let m : most the_size c.as_slice.result.now ≡ most the_size c.args.node.now.children = ap (most the_size) c.as_slice.ensures in
    (search (rules, the_lemmas, d, m, size_is-DataSetNode), subst (λ (trees : List DataSetTree). AllCanBuild c.args.sources.now trees) (sym c.as_slice.ensures) (can_build_operands c.args.sources.now c.args.node.now c.requires))

pub tree_of-of-requires : goal.tree_of-of-requires
tree_of-of-requires t c = record { typed = c.requires.typed.typed.1; built = is_built-operator c.args.node.now c.requires.built }

-- what the rule wants fits the operands of the node
pub tree_of-nothing_held_of-requires : goal.tree_of-nothing_held_of-requires
tree_of-nothing_held_of-requires t c =
    let node = c.args.node.now in
    let o : Operator = an_operator node.operator node.operands node.structure in
    let typed : IsTyped o = c.requires.typed.typed.1 in
    let rule = c.in_ok-rule.rule in
    let is : rule ≡ o = c.in_ok-rule.ensures in
    let wanted = rule-wanted rule (subst (λ (q : Operator). IsTyped q) (sym is) typed) in
    subst (λ (ws : List Want). AreWanted ws c.as_slice-2.result.now) (sym c.wants.ensures)
    (subst (λ (ss : List (List Component)). AreWanted (wanted_of rule) ss) (ap (λ (q : Operator). q.operands) is ∙ sym c.as_slice-2.ensures) wanted)

pub tree_of-returns : goal.tree_of-returns
tree_of-returns t c =
    let node = c.args.node.now in
    let sources = c.args.sources.now in
    let rule = c.in_ok-rule.rule in
    let ps = map plain c.in_ok-children.children.items in
    let held = c.in_ok-held.held.items in
    let built : AreBuilt sources node.children ps = subst (λ (trees : List DataSetTree). AreBuilt sources trees ps) c.as_slice.ensures c.in_ok-children.ensures in
    let held_are : held ≡ map nothing_held (wanted_of rule) = c.in_ok-held.ensures ∙ ap (map nothing_held) c.wants.ensures in
    subst (λ (p : Plain). IsBuilt sources (expression_of_node node) p) (sym c.new_tree.ensures) (built-operator sources node rule ps held c.requires.typed c.in_ok-rule.ensures built held_are)

pub child_of-returns-in-Some : goal.child_of-returns-in-Some
child_of-returns-in-Some t c =
    let sources = c.args.sources.now in
    let n = c.in-Some.number in
    let source = c.in-Name.source in
    let is : expression_of c.args.tree.now ≡ Named source = ap expression_of c.in-Name.is ∙ expression_of-Name source in
    subst (λ (e : Expression Source). IsBuilt sources e (plain (Name n))) (sym is) (subst (λ (p : Plain). IsBuilt sources (Named source) p) (sym (plain-Name n)) (built-name sources source n c.in-Some.ensures.place))
