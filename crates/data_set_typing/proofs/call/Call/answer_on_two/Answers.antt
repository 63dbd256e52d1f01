use Rattle.std.proofs.Common.{◌≡◌, ◌∷◌, [], sym, ◌∙◌}
use Rattle.scalar_trees.specs.typing.Scalars.{binary_typed}
use Rattle.data_set_trees.specs.declared.form.Form.TheVariants as form
use Rattle.data_set_trees.specs.Lifted.{answer}
use Rattle.data_set_parts.proofs.Follows.{ok_same, err_same}
use Rattle.data_set_typing.specs.Slots.{standing, slots_after}
use Rattle.data_set_typing.proofs.Few.{answer_of_two}
use Rattle.data_set_typing.proofs.call.Call.answer_on_two.Goals as goal

pub returns-clause-ok : goal.returns-clause-ok
returns-clause-ok c =
    let place = c.args.self.now.place in
    let operator = c.args.operator in
    let a = c.args.left.now in
    let b = c.args.right.now in
    let slots = c.args.slots.now in
    let second : c.in_ok-second.second ≡ standing (slots_after slots a) b = c.in_ok-second.ensures ∙ (λ i. standing (c.slots_after.ensures i) b) in
    let same : binary_typed operator place c.in_ok-first.first c.in_ok-second.second ≡ answer (form.Binary operator) place (a ∷ b ∷ []) slots =
    (λ i. binary_typed operator place (c.in_ok-first.ensures i) (second i)) ∙ sym (answer_of_two operator place a b slots) in
    ok_same (binary_typed operator place c.in_ok-first.first c.in_ok-second.second) (answer (form.Binary operator) place (a ∷ b ∷ []) slots) c.binary_typed.result same c.binary_typed.ensures.ok

pub returns-clause-err : goal.returns-clause-err
returns-clause-err c =
    let place = c.args.self.now.place in
    let operator = c.args.operator in
    let a = c.args.left.now in
    let b = c.args.right.now in
    let slots = c.args.slots.now in
    let second : c.in_ok-second.second ≡ standing (slots_after slots a) b = c.in_ok-second.ensures ∙ (λ i. standing (c.slots_after.ensures i) b) in
    let same : binary_typed operator place c.in_ok-first.first c.in_ok-second.second ≡ answer (form.Binary operator) place (a ∷ b ∷ []) slots =
    (λ i. binary_typed operator place (c.in_ok-first.ensures i) (second i)) ∙ sym (answer_of_two operator place a b slots) in
    err_same (binary_typed operator place c.in_ok-first.first c.in_ok-second.second) (answer (form.Binary operator) place (a ∷ b ∷ []) slots) c.binary_typed.result same c.binary_typed.ensures.err
