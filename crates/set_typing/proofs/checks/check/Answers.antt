use Rattle.std.proofs.Common.{◌≡◌, Bool, Result, Ok, ap, sym, subst, ◌∙◌}
use Rattle.std.specs.Prelude.{IfErr}
use Rattle.vtl_syntax.specs.declared.words.CheckOutput.{CheckOutput}
use Rattle.scalar_trees.specs.declared.typing.stop.Refusal.{Refusal}
use Rattle.scalar_trees.specs.typing.Steps.{Refuses}
use Rattle.operator_typing.proofs.Steps.{stops_same, fails_there, goes_on}
use Rattle.data_set_trees.specs.declared.operand.Operand.{Operand}
use Rattle.data_set_trees.specs.declared.operand.Operand.TheVariants as operand
use Rattle.data_set_trees.specs.declared.rules.rules.CheckedCheck.{CheckedCheck}
use Rattle.data_set_trees.specs.declared.tree.DataSetOperator.TheVariants as operator
use Rattle.data_set_trees.specs.Trees.{applied, data_sets}
use Rattle.vtl_syntax.specs.declared.words.CheckOutput.TheVariants.{All}
use Rattle.std.specs.Prelude.{unwrap_or}
use Rattle.set_typing.specs.Plans.{check_planned, has_more}
use Rattle.set_typing.proofs.Checked.{check_lifts}
use Rattle.set_typing.proofs.Plans.{carried}
use Rattle.set_typing.proofs.checks.check.Goals as goal

pub returns-in_err-structure-clause-err : goal.returns-in_err-structure-clause-err
returns-in_err-structure-clause-err c =
    let place = c.args.place in
    let operands = c.args.operands in
    let stop = c.in_err-structure.field-0.0 in
    let check : CheckedCheck = record { error = c.args.error; has_imbalance = has_more operands; output = unwrap_or c.args.output All } in
    let refuses = stops_same (check_planned place c.as_slice.result.now) (check_planned place operands) stop (ap (check_planned place) c.as_slice.ensures) c.in_err-structure.ensures.err in
    subst (λ (m : Result Operand Refusal). IfErr c.from_residual.result (Refuses m)) (sym (check_lifts c.args.error c.args.output place operands))
    (fails_there (check_planned place operands) (carried (operator.Check check) place (data_sets operands)) c.from_residual.result stop refuses c.from_residual.ensures.1)

pub returns-clause-ok : goal.returns-clause-ok
returns-clause-ok c =
    let place = c.args.place in
    let operands = c.args.operands in
    let structure = c.in_ok-structure.structure in
    let check : Bool → CheckOutput → CheckedCheck = λ has output. record { error = c.args.error; has_imbalance = has; output = output } in
    let meant = check (has_more operands) (unwrap_or c.args.output All) in
    let answered : check_planned place operands ≡ Ok structure = ap (check_planned place) (sym c.as_slice.ensures) ∙ c.in_ok-structure.ensures.ok in
    let has = c.has_more.ensures ∙ ap has_more c.as_slice-2.ensures in
    check_lifts c.args.error c.args.output place operands
    ∙ goes_on (check_planned place operands) (carried (operator.Check meant) place (data_sets operands)) structure answered
    ∙ ap Ok (sym (c.in_ok-applied.ensures ∙ (λ i. operand.DataSet (applied (operator.Check (check (has i) (c.unwrap_or.ensures i))) place (data_sets operands) structure))))
