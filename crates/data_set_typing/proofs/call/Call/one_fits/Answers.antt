use Rattle.std.proofs.Common.{◌∷◌, [], sym, ap, ◌∙◌}
use Rattle.std.specs.Prelude.{is_some}
use Rattle.scalar_trees.specs.Kinds.{agreed}
use Rattle.data_set_typing.proofs.Few.{fits_when_taken}
use Rattle.data_set_typing.proofs.call.Call.one_fits.Goals as goal

pub returns : goal.returns
returns c =
    c.is_some.ensures
    ∙ ap is_some (c.agreed.ensures ∙ (λ i. agreed (c.unary_takes.ensures i) (c.kind_standing.ensures i ∷ [])))
    ∙ sym (fits_when_taken c.args.operator c.args.self.now.place c.args.operand.now c.args.slots.now)
