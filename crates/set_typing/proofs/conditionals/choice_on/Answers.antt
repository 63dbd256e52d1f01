use Rattle.std.proofs.Common.{◌≡◌, [], ◌∷◌, Result, Ok, ap, sym, subst, ◌∙◌}
use Rattle.std.specs.Prelude.{IfErr}
use Rattle.scalar_trees.specs.declared.typing.stop.Refusal.{Refusal}
use Rattle.scalar_trees.specs.typing.Steps.{Refuses}
use Rattle.operator_typing.proofs.Steps.{stops_same, fails_there, goes_on}
use Rattle.data_set_trees.specs.declared.operand.Operand.{Operand}
use Rattle.data_set_trees.specs.Trees.{data_sets}
use Rattle.set_typing.specs.Conditionals.{planned, chosen_on}
use Rattle.set_typing.proofs.Choosing.{carried, choice_lifts}
use Rattle.set_typing.proofs.conditionals.choice_on.Goals as goal

pub returns-in_err-chosen-clause-err : goal.returns-in_err-chosen-clause-err
returns-in_err-chosen-clause-err c =
    let place = c.args.place in
    let a = c.args.holds in
    let b = c.args.fails in
    let operands = c.args.condition ∷ a ∷ b ∷ [] in
    let stop = c.in_err-chosen.field-0.0 in
    let given : c.as_slice.result.now ≡ operands = c.as_slice.ensures ∙ c.in_ok-operands.ensures in
    let refuses = stops_same (planned place c.as_slice.result.now) (planned place operands) stop (ap (planned place) given) c.in_err-chosen.ensures.err in
    subst (λ (m : Result Operand Refusal). IfErr c.from_residual-in_err-chosen.result (Refuses m)) (sym (choice_lifts place c.args.condition a b))
    (fails_there (planned place operands) (carried place a b (data_sets operands)) c.from_residual-in_err-chosen.result stop refuses c.from_residual-in_err-chosen.ensures.1)

pub returns-clause-ok : goal.returns-clause-ok
returns-clause-ok c =
    let place = c.args.place in
    let a = c.args.holds in
    let b = c.args.fails in
    let operands = c.args.condition ∷ a ∷ b ∷ [] in
    let chosen = c.in_ok-chosen.chosen in
    let given : c.as_slice.result.now ≡ operands = c.as_slice.ensures ∙ c.in_ok-operands.ensures in
    let answered : planned place operands ≡ Ok chosen = ap (planned place) (sym given) ∙ c.in_ok-chosen.ensures.ok in
    choice_lifts place c.args.condition a b
    ∙ goes_on (planned place operands) (carried place a b (data_sets operands)) chosen answered
    ∙ ap Ok (sym (c.in_ok-carried_out.ensures ∙ (λ i. chosen_on place (c.branch_of-of_holds.ensures i) (c.branch_of-of_fails.ensures i) (data_sets (c.in_ok-operands.ensures i)) chosen)))
