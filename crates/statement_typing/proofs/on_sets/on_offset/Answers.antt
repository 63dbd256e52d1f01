use Rattle.std.proofs.Common.{◌≡◌, List, Result, Ok, sym, ap, ◌∙◌}
use Rattle.vtl_values.specs.declared.structure.Component.{Component}
use Rattle.scalar_trees.specs.declared.typing.stop.Refusal.{Refusal}
use Rattle.scalar_trees.specs.typing.Steps.{Refuses}
use Rattle.operator_typing.proofs.Steps.{stops_same}
use Rattle.data_set_trees.specs.declared.windows.analytic.CheckedWindow.{CheckedWindow}
use Rattle.data_set_trees.specs.windows.Windows.{offset_checked}
use Rattle.data_set_trees.specs.declared.operand.DataSet.{DataSet}
use Rattle.data_set_trees.specs.declared.operand.Operand.TheVariants as operand
use Rattle.data_set_trees.specs.declared.tree.DataSetOperator.TheVariants as operator
use Rattle.expression_rules.specs.OnSets.{on_offset, window_after, with_operator}
use Rattle.statement_typing.proofs.OnSets.{given, faulty}
use Rattle.statement_typing.proofs.Steps.{stopped}
use Rattle.statement_typing.proofs.on_sets.on_offset.Goals as goal

pub returns-in_err-window : goal.returns-in_err-window
returns-in_err-window c =
    let checked : List Component → Result CheckedWindow Refusal = offset_checked c.args.function c.args.offset c.args.over.now c.args.place in
    let d = c.in_ok-set_of.field-0 in
    let stop = c.in_err-window.field-0.0 in
    let read = c.components-components.ensures.value ∙ ap (λ (s : DataSet). s.structure) (c.get.ensures ∙ c.in_ok-set.ensures) in
    let why : Refuses (checked d.structure) stop = stops_same (checked c.components-components.result.now) (checked d.structure) stop (ap checked read) c.in_err-window.ensures.err in
    stopped (on_offset c.args.function c.args.offset c.args.over.now c.args.place c.args.operand) stop c.from_residual-in_err-window.result (faulty checked operator.Window window_after c.args.place c.args.operand d stop c.in_ok-set_of.ensures.ok why) c.from_residual-in_err-window.ensures.1

pub returns : goal.returns
returns c =
    let checked : List Component → Result CheckedWindow Refusal = offset_checked c.args.function c.args.offset c.args.over.now c.args.place in
    let d = c.in_ok-set_of.field-0 in
    let w = c.in_ok-window.window in
    let read = c.components-components.ensures.value ∙ ap (λ (s : DataSet). s.structure) (c.get.ensures ∙ c.in_ok-set.ensures) in
    let has : checked d.structure ≡ Ok w = ap checked (sym read) ∙ c.in_ok-window.ensures.ok in
    let made = c.in_ok-with_window.ensures ∙ ap (λ (s : DataSet). operand.DataSet (with_operator (operator.Window w) (window_after w) c.args.place s)) (c.into_inner.ensures ∙ c.in_ok-set.ensures) in
    record { ok = given checked operator.Window window_after c.args.place c.args.operand d w c.in_ok-set_of.ensures.ok has ∙ ap Ok (sym made); err = tt }
