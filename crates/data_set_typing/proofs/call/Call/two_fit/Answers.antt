use Rattle.std.proofs.Common.{◌≡◌, ◌∷◌, [], sym, ap, ◌∙◌}
use Rattle.std.specs.Prelude.{is_some}
use Rattle.scalar_trees.specs.Kinds.{agreed}
use Rattle.data_set_typing.specs.Slots.{standing, slots_after}
use Rattle.data_set_typing.proofs.Few.{fits_when_agreed}
use Rattle.data_set_typing.proofs.call.Call.two_fit.Goals as goal

pub returns : goal.returns
returns c =
    let slots = c.args.slots.now in
    let a = c.args.left.now in
    let b = c.args.right.now in
    let second : c.kind_standing-second.result ≡ (standing (slots_after slots a) b).kind = c.kind_standing-second.ensures ∙ (λ i. (standing (c.slots_after.ensures i) b).kind) in
    c.is_some.ensures
    ∙ ap is_some (c.agreed.ensures ∙ (λ i. agreed (c.binary_takes.ensures i) (c.kind_standing-first.ensures i ∷ second i ∷ [])))
    ∙ sym (fits_when_agreed c.args.operator c.args.self.now.place a b slots)
