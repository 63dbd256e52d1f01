use Rattle.std.proofs.Common.{◌≡◌, Result, Ok, ap, sym, subst, ◌∙◌}
use Rattle.std.specs.Prelude.{IfErr}
use Rattle.scalar_trees.specs.declared.typing.stop.Refusal.{Refusal}
use Rattle.scalar_trees.specs.typing.Steps.{Refuses}
use Rattle.operator_typing.proofs.Steps.{stops_same, fails_there, goes_on}
use Rattle.data_set_trees.specs.declared.operand.Operand.{Operand}
use Rattle.data_set_trees.specs.declared.tree.DataSetOperator.TheVariants as operator
use Rattle.data_set_trees.specs.Trees.{data_sets}
use Rattle.set_typing.specs.Plans.{sets_planned}
use Rattle.set_typing.proofs.Plans.{carried, sets_lift}
use Rattle.set_typing.proofs.collections.sets.Goals as goal

pub returns-in_err-structure-clause-err : goal.returns-in_err-structure-clause-err
returns-in_err-structure-clause-err c =
    let place = c.args.place in
    let operands = c.args.operands in
    let stop = c.in_err-structure.field-0.0 in
    let refuses = stops_same (sets_planned place c.as_slice.result.now) (sets_planned place operands) stop (ap (sets_planned place) c.as_slice.ensures) c.in_err-structure.ensures.err in
    subst (λ (m : Result Operand Refusal). IfErr c.from_residual.result (Refuses m)) (sym (sets_lift c.args.operation place operands))
    (fails_there (sets_planned place operands) (carried (operator.Set c.args.operation) place (data_sets operands)) c.from_residual.result stop refuses c.from_residual.ensures.1)

pub returns-clause-ok : goal.returns-clause-ok
returns-clause-ok c =
    let place = c.args.place in
    let operands = c.args.operands in
    let structure = c.in_ok-structure.structure in
    let answered : sets_planned place operands ≡ Ok structure = ap (sets_planned place) (sym c.as_slice.ensures) ∙ c.in_ok-structure.ensures.ok in
    sets_lift c.args.operation place operands
    ∙ goes_on (sets_planned place operands) (carried (operator.Set c.args.operation) place (data_sets operands)) structure answered
    ∙ ap Ok (sym c.in_ok-applied.ensures)
