use Rattle.std.proofs.Common.{◌≡◌, Bool, Result, Ok, ap, sym, subst, ◌∙◌}
use Rattle.std.specs.Prelude.{List, IfErr}
use Rattle.std.specs.List.{list_all}
use Rattle.scalar_trees.specs.declared.typing.stop.Fault.TheVariants.{WrongStructure}
use Rattle.scalar_trees.specs.declared.typing.stop.Refusal.{Refusal}
use Rattle.scalar_trees.specs.typing.Steps.{Refuses, demanded}
use Rattle.operator_typing.proofs.Steps.{stops_same, fails_there, goes_on}
use Rattle.data_set_trees.specs.declared.operand.DataSet.{DataSet}
use Rattle.data_set_trees.specs.Trees.{data_sets}
use Rattle.join_typing.specs.Joining.{is_set}
use Rattle.join_typing.proofs.Steps.{sets_found}
use Rattle.join_typing.proofs.operands.all_sets.Goals as goal

pub returns-in_err-demand-clause-err : goal.returns-in_err-demand-clause-err
returns-in_err-demand-clause-err c =
    let place = c.args.place in
    let os = c.args.operands in
    let asked = demanded (list_all is_set os) WrongStructure place in
    let stop = c.in_err-demand.field-0.0 in
    let test = c.are_sets.ensures ∙ ap (list_all is_set) c.as_slice.ensures in
    let refuses = stops_same (demanded c.are_sets.result WrongStructure place) asked stop (ap (λ (b : Bool). demanded b WrongStructure place) test) c.in_err-demand.ensures.err in
    subst (λ (m : Result (List DataSet) Refusal). IfErr c.from_residual.result (Refuses m)) (sym (sets_found place os))
    (fails_there asked (λ met. Ok (data_sets os)) c.from_residual.result stop refuses c.from_residual.ensures.1)

pub returns-clause-ok : goal.returns-clause-ok
returns-clause-ok c =
    let place = c.args.place in
    let os = c.args.operands in
    let asked = demanded (list_all is_set os) WrongStructure place in
    let test = c.are_sets.ensures ∙ ap (list_all is_set) c.as_slice.ensures in
    sets_found place os
    ∙ goes_on asked (λ met. Ok (data_sets os)) c.in_ok-demand.field-0 (ap (λ (b : Bool). demanded b WrongStructure place) (sym test) ∙ c.in_ok-demand.ensures.ok)
    ∙ ap Ok (sym c.in_ok-data_sets.ensures)
