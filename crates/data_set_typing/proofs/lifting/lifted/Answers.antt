use Rattle.std.proofs.Common.{◌≡◌, Result, Ok, ap, sym, subst, ◌∙◌}
use Rattle.std.specs.Prelude.{IfErr}
use Rattle.scalar_trees.specs.declared.typing.stop.Refusal.{Refusal}
use Rattle.scalar_trees.specs.typing.Steps.{Refuses}
use Rattle.operator_typing.proofs.Steps.{stops_same, fails_there, goes_on}
use Rattle.data_set_trees.specs.declared.operand.Operand.{Operand}
use Rattle.data_set_trees.specs.Trees.{data_sets}
use Rattle.data_set_typing.specs.Plans.{planned, carried_out}
use Rattle.data_set_typing.proofs.Lifts.{lifts}
use Rattle.data_set_typing.proofs.lifting.lifted.Goals as goal

pub returns-in_err-plan-clause-err : goal.returns-in_err-plan-clause-err
returns-in_err-plan-clause-err c =
    let form = c.args.form.now in
    let place = c.args.place in
    let operands = c.args.operands in
    let stop = c.in_err-plan.field-0.0 in
    let refuses = stops_same (planned form place c.as_slice.result.now) (planned form place operands) stop (ap (planned form place) c.as_slice.ensures) c.in_err-plan.ensures.err in
    subst (λ (m : Result Operand Refusal). IfErr c.from_residual.result (Refuses m)) (sym (lifts form place operands))
    (fails_there (planned form place operands) (λ p. Ok (carried_out place p (data_sets operands))) c.from_residual.result stop refuses c.from_residual.ensures.1)

pub returns-clause-ok : goal.returns-clause-ok
returns-clause-ok c =
    let form = c.args.form.now in
    let place = c.args.place in
    let operands = c.args.operands in
    let plan = c.in_ok-plan.plan in
    let answered : planned form place operands ≡ Ok plan = ap (planned form place) (sym c.as_slice.ensures) ∙ c.in_ok-plan.ensures.ok in
    lifts form place operands
    ∙ goes_on (planned form place operands) (λ p. Ok (carried_out place p (data_sets operands))) plan answered
    ∙ ap Ok (sym c.in_ok-finished.ensures)
