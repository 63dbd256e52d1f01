use Rattle.std.proofs.Common.{refl, [], None, Ok, sym, ◌∙◌}
use Rattle.std.specs.Prelude.{unwrap_or}
use Rattle.vtl_syntax.specs.declared.words.HierarchyInput.TheVariants as input
use Rattle.vtl_syntax.specs.declared.words.HierarchyOutput.TheVariants as output
use Rattle.data_set_trees.specs.declared.rules.rules.CheckedHierarchy.TheVariants.{Computed}
use Rattle.data_set_trees.specs.declared.rules.rules.CheckedHierarchy.{CheckedHierarchy}
use Rattle.data_set_trees.specs.declared.rules.rules.HierarchyContent.{HierarchyContent}
use Rattle.data_set_trees.proofs.rules.Given.{hierarchies_give}
use Rattle.rule_typing.proofs.Uses.{use_refused, use_told}
use Rattle.rule_typing.proofs.hierarchies.computed_typed.Goals as goal

pub returns-in_err-content-clause-err : goal.returns-in_err-content-clause-err
returns-in_err-content-clause-err c =
    let r = c.args.rules.now in
    let stated = c.args.component.now in
    let mode = c.args.mode in
    let place = c.args.place in
    let cs = c.args.components.now in
    let wrap : HierarchyContent → CheckedHierarchy = λ k. Computed k (unwrap_or c.args.input input.Rule) (unwrap_or c.args.output output.Computed) in
    use_refused r stated mode [] wrap place cs None c.from_residual.result c.in_err-content.field-0.0 refl c.in_err-content.ensures.err c.from_residual.ensures.1

pub returns-clause-ok : goal.returns-clause-ok
returns-clause-ok c =
    let r = c.args.rules.now in
    let stated = c.args.component.now in
    let mode = c.args.mode in
    let place = c.args.place in
    let cs = c.args.components.now in
    let wrap : HierarchyContent → CheckedHierarchy = λ k. Computed k (unwrap_or c.args.input input.Rule) (unwrap_or c.args.output output.Computed) in
    use_told r stated mode [] wrap place cs None c.in_ok-content.content refl c.in_ok-content.ensures.ok ∙ (λ i. Ok (Computed c.in_ok-content.content (sym c.unwrap_or.ensures i) (sym c.unwrap_or-2.ensures i)))

pub returns-clause-structure : goal.returns-clause-structure
returns-clause-structure c =
    λ is. hierarchies_give.computed c.args.rules.now c.args.component.now c.args.mode c.args.input c.args.output c.args.place c.args.components.now (Computed c.in_ok-content.content c.unwrap_or.result c.unwrap_or-2.result) is (returns-clause-ok c)
