use Rattle.std.proofs.Common.{List, Result, ap, ◌∙◌}
use Rattle.vtl_values.specs.declared.structure.Component.{Component}
use Rattle.scalar_trees.specs.declared.typing.stop.Refusal.{Refusal}
use Rattle.scalar_trees.specs.typing.Steps.{Refuses}
use Rattle.operator_typing.proofs.Steps.{stops_same}
use Rattle.data_set_trees.specs.declared.rules.rules.CheckedHierarchy.{CheckedHierarchy}
use Rattle.data_set_trees.specs.rules.Hierarchies.{after, checked_checked}
use Rattle.data_set_trees.specs.declared.operand.DataSet.{DataSet}
use Rattle.data_set_trees.specs.declared.tree.DataSetOperator.TheVariants as operator
use Rattle.expression_rules.specs.OnRules.{on_check_hierarchy}
use Rattle.statement_typing.proofs.OnSets.{faulty}
use Rattle.statement_typing.proofs.Steps.{stopped}
use Rattle.statement_typing.proofs.on_rules.on_check_hierarchy.Goals as goal

pub returns-in_err-hierarchy : goal.returns-in_err-hierarchy
returns-in_err-hierarchy c =
    let component = c.args.component.now in
    let place = c.args.place in
    let rules = c.args.rules.now in
    let checked : List Component → Result CheckedHierarchy Refusal = checked_checked rules component c.args.mode c.args.input c.args.output place in
    let d = c.in_ok-set_of.field-0 in
    let stop = c.in_err-hierarchy.field-0.0 in
    let read = c.components-components.ensures.value ∙ ap (λ (s : DataSet). s.structure) (c.get.ensures ∙ c.in_ok-set.ensures) in
    let why : Refuses (checked d.structure) stop = stops_same (checked c.components-components.result.now) (checked d.structure) stop (ap checked read) c.in_err-hierarchy.ensures.err in
    stopped (on_check_hierarchy component c.args.mode c.args.input c.args.output place rules c.args.operand) stop c.from_residual-in_err-hierarchy.result (faulty checked operator.Hierarchy after place c.args.operand d stop c.in_ok-set_of.ensures.ok why) c.from_residual-in_err-hierarchy.ensures.1
