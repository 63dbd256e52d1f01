use Rattle.std.proofs.Common.{◌≡◌, ◌∷◌, [], sym, ap, ◌∙◌}
use Rattle.scalar_trees.specs.typing.Scalars.{unary_typed}
use Rattle.data_set_trees.specs.declared.form.Form.TheVariants as form
use Rattle.data_set_trees.specs.Lifted.{answer}
use Rattle.data_set_parts.proofs.Follows.{ok_same, err_same}
use Rattle.data_set_typing.proofs.Few.{answer_of_one}
use Rattle.data_set_typing.proofs.call.Call.answer_on_one.Goals as goal

pub returns-clause-ok : goal.returns-clause-ok
returns-clause-ok c =
    let place = c.args.self.now.place in
    let operator = c.args.operator in
    let a = c.args.operand.now in
    let slots = c.args.slots.now in
    let same : unary_typed operator place c.in_ok-operand.operand ≡ answer (form.Unary operator) place (a ∷ []) slots = ap (unary_typed operator place) c.in_ok-operand.ensures ∙ sym (answer_of_one operator place a slots) in
    ok_same (unary_typed operator place c.in_ok-operand.operand) (answer (form.Unary operator) place (a ∷ []) slots) c.unary_typed.result same c.unary_typed.ensures.ok

pub returns-clause-err : goal.returns-clause-err
returns-clause-err c =
    let place = c.args.self.now.place in
    let operator = c.args.operator in
    let a = c.args.operand.now in
    let slots = c.args.slots.now in
    let same : unary_typed operator place c.in_ok-operand.operand ≡ answer (form.Unary operator) place (a ∷ []) slots = ap (unary_typed operator place) c.in_ok-operand.ensures ∙ sym (answer_of_one operator place a slots) in
    err_same (unary_typed operator place c.in_ok-operand.operand) (answer (form.Unary operator) place (a ∷ []) slots) c.unary_typed.result same c.unary_typed.ensures.err
