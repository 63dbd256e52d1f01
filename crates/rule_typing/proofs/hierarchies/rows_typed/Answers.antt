use Rattle.std.proofs.Common.{Ok, ap, sym, ◌∙◌}
use Rattle.std.specs.Prelude.{unwrap_or}
use Rattle.vtl_syntax.specs.declared.words.CheckInput.TheVariants as input
use Rattle.vtl_syntax.specs.declared.words.RowsOutput.{RowsOutput}
use Rattle.vtl_syntax.specs.declared.words.RowsOutput.TheVariants.{Invalid}
use Rattle.data_set_trees.specs.declared.rules.rules.CheckedHierarchy.TheVariants.{Checked}
use Rattle.data_set_trees.specs.rules.Hierarchies.{rows_demanded}
use Rattle.data_set_trees.specs.rules.Rules.{first_fault, unmet}
use Rattle.data_set_trees.specs.declared.rules.rules.CheckedHierarchy.{CheckedHierarchy}
use Rattle.data_set_trees.specs.declared.rules.rules.HierarchyContent.{HierarchyContent}
use Rattle.data_set_trees.proofs.rules.Given.{hierarchies_give}
use Rattle.rule_typing.proofs.Uses.{use_refused, use_told}
use Rattle.rule_typing.proofs.hierarchies.rows_typed.Goals as goal

pub returns-in_err-content-clause-err : goal.returns-in_err-content-clause-err
returns-in_err-content-clause-err c =
    let r = c.args.rules.now in
    let stated = c.args.component.now in
    let mode = c.args.mode in
    let place = c.args.place in
    let cs = c.args.components.now in
    let wrap : HierarchyContent → CheckedHierarchy = λ k. Checked k (unwrap_or c.args.input input.Dataset) (unwrap_or c.args.output Invalid) in
    use_refused r stated mode (rows_demanded (unwrap_or c.args.output Invalid) cs) wrap place cs c.in_ok-further.further c.from_residual-in_err-content.result c.in_err-content.field-0.0 (c.in_ok-further.ensures ∙ ap (λ (o : RowsOutput). first_fault (unmet (rows_demanded o cs))) c.unwrap_or-output.ensures) c.in_err-content.ensures.err c.from_residual-in_err-content.ensures.1

pub returns-clause-ok : goal.returns-clause-ok
returns-clause-ok c =
    let r = c.args.rules.now in
    let stated = c.args.component.now in
    let mode = c.args.mode in
    let place = c.args.place in
    let cs = c.args.components.now in
    let wrap : HierarchyContent → CheckedHierarchy = λ k. Checked k (unwrap_or c.args.input input.Dataset) (unwrap_or c.args.output Invalid) in
    use_told r stated mode (rows_demanded (unwrap_or c.args.output Invalid) cs) wrap place cs c.in_ok-further.further c.in_ok-content.content (c.in_ok-further.ensures ∙ ap (λ (o : RowsOutput). first_fault (unmet (rows_demanded o cs))) c.unwrap_or-output.ensures) c.in_ok-content.ensures.ok ∙ (λ i. Ok (Checked c.in_ok-content.content (sym c.unwrap_or.ensures i) (sym c.unwrap_or-output.ensures i)))

pub returns-clause-structure : goal.returns-clause-structure
returns-clause-structure c =
    λ is. hierarchies_give.checked c.args.rules.now c.args.component.now c.args.mode c.args.input c.args.output c.args.place c.args.components.now (Checked c.in_ok-content.content c.unwrap_or.result c.unwrap_or-output.result) is (returns-clause-ok c)
