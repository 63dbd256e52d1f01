use Rattle.std.proofs.Common.{◌≡◌, [], ◌∷◌, unwrap_or, Result, Ok, ap, sym, subst, ◌∙◌}
use Rattle.std.specs.Prelude.{IfErr}
use Rattle.vtl_syntax.specs.declared.words.ExistsRows.TheVariants.{All}
use Rattle.scalar_trees.specs.declared.typing.stop.Refusal.{Refusal}
use Rattle.scalar_trees.specs.typing.Steps.{Refuses}
use Rattle.operator_typing.proofs.Steps.{stops_same, fails_there, goes_on}
use Rattle.data_set_trees.specs.declared.operand.Operand.{Operand}
use Rattle.data_set_trees.specs.declared.operand.Operand.TheVariants as operand
use Rattle.data_set_trees.specs.declared.tree.DataSetOperator.TheVariants as operator
use Rattle.data_set_trees.specs.Trees.{applied, data_sets}
use Rattle.set_typing.specs.Plans.{exists_planned}
use Rattle.set_typing.proofs.Plans.{carried, exists_lifts}
use Rattle.set_typing.proofs.existence.exists.Goals as goal

pub returns-in_err-structure-clause-err : goal.returns-in_err-structure-clause-err
returns-in_err-structure-clause-err c =
    let place = c.args.place in
    let operands = c.args.left ∷ c.args.right ∷ [] in
    let stop = c.in_err-structure.field-0.0 in
    let given : c.as_slice.result.now ≡ operands = c.as_slice.ensures ∙ c.in_ok-operands.ensures in
    let refuses = stops_same (exists_planned place c.as_slice.result.now) (exists_planned place operands) stop (ap (exists_planned place) given) c.in_err-structure.ensures.err in
    subst (λ (m : Result Operand Refusal). IfErr c.from_residual-in_err-structure.result (Refuses m)) (sym (exists_lifts c.args.rows place c.args.left c.args.right))
    (fails_there (exists_planned place operands) (carried (operator.ExistsIn (unwrap_or c.args.rows All)) place (data_sets operands)) c.from_residual-in_err-structure.result stop refuses c.from_residual-in_err-structure.ensures.1)

pub returns-clause-ok : goal.returns-clause-ok
returns-clause-ok c =
    let place = c.args.place in
    let operands = c.args.left ∷ c.args.right ∷ [] in
    let structure = c.in_ok-structure.structure in
    let given : c.as_slice.result.now ≡ operands = c.as_slice.ensures ∙ c.in_ok-operands.ensures in
    let answered : exists_planned place operands ≡ Ok structure = ap (exists_planned place) (sym given) ∙ c.in_ok-structure.ensures.ok in
    exists_lifts c.args.rows place c.args.left c.args.right
    ∙ goes_on (exists_planned place operands) (carried (operator.ExistsIn (unwrap_or c.args.rows All)) place (data_sets operands)) structure answered
    ∙ ap Ok (sym (c.in_ok-applied.ensures ∙ (λ i. operand.DataSet (applied (operator.ExistsIn (c.unwrap_or.ensures i)) place (data_sets (c.in_ok-operands.ensures i)) structure))))
