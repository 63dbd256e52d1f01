use Rattle.std.proofs.Common.{◌≡◌, ◌<◌, Some, None, slice_get, length, refl, sym, ◌∙◌, ap, subst, List}
use Rattle.std.specs.Prelude.{count_by}
use Rattle.std.proofs.lemmas.Option.{slice_get_read}
use Rattle.data_set_trees.specs.declared.checked.script.CheckedStatement.{CheckedStatement}
use Rattle.data_set_trees.specs.declared.tree.Source.{Source}
use Rattle.data_set_trees.specs.checked.Expressions.{expression_of}
use Rattle.data_set_trees.specs.checked.Scripts.{names_result}
use Rattle.transform_nodes.specs.Building.{CanBuild, IsBuilt}
use Rattle.transform_nodes.specs.Trees.{plain}
use Rattle.transform_nodes.proofs.NewNodeLemmas.{can_build, new_node}
use Rattle.transform_nodes.proofs.node.Node.of.Goals as goal

pub child_of-requires : goal.child_of-requires
child_of-requires c =
    let s = c.args.script.now in
    let named = c.index-statements-statement.result in
    let there : slice_get s.statements c.args.statement ≡ Some named = subst (λ (sts : List CheckedStatement). slice_get sts c.args.statement ≡ Some named) c.statements-statements.ensures.value (slice_get_read c.statements-statements.result.now (length c.statements-statements.result.now) c.args.statement named refl (subst (λ (sts : List CheckedStatement). c.args.statement < length sts) (sym c.statements-statements.ensures.value) c.requires) c.index-statements-statement.is) in
    subst (λ (ns : List Source). CanBuild ns (expression_of named.tree)) (sym c.as_slice.ensures.value) (can_build s c.statements-statements.ensures.checked c.args.statement named there c.statements-statements.ensures.built c.in_ok-sources.sources.items c.in_ok-sources.ensures)

pub returns-clause-stands : goal.returns-clause-stands
returns-clause-stands c =
    let s = c.args.script.now in
    let named = c.index-statements-statement.result in
    let there : slice_get s.statements c.args.statement ≡ Some named = subst (λ (sts : List CheckedStatement). slice_get sts c.args.statement ≡ Some named) c.statements-statements.ensures.value (slice_get_read c.statements-statements.result.now (length c.statements-statements.result.now) c.args.statement named refl (subst (λ (sts : List CheckedStatement). c.args.statement < length sts) (sym c.statements-statements.ensures.value) c.requires) c.index-statements-statement.is) in
    let built : IsBuilt c.from_vec.result (expression_of named.tree) (plain c.in_ok-tree.tree) = subst (λ (ns : List Source). IsBuilt ns (expression_of named.tree) (plain c.in_ok-tree.tree)) (c.as_slice.ensures.value ∙ sym c.from_vec.ensures) c.in_ok-tree.ensures in
    new_node s c.statements-statements.ensures.checked c.args.statement named there c.from_vec.result c.in_ok-uses.uses c.in_ok-tree.tree c.in_ok-pages.pages None
    (c.from_vec.ensures ∙ c.in_ok-sources.ensures)
    (c.in_ok-uses.ensures ∙ ap (count_by (names_result c.args.statement)) c.statements-statements.ensures.value)
    built c.in_ok-pages.ensures
