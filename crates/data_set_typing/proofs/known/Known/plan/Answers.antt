use Rattle.std.proofs.Common.{refl, sym, ap, ◌∙◌}
use Rattle.data_set_typing.specs.declared.plan.Plan.TheVariants as plan
use Rattle.data_set_typing.specs.Known.{by_structures}
use Rattle.data_set_typing.proofs.Anywhere.{known_elsewhere}
use Rattle.data_set_typing.proofs.known.Known.plan.Goals as goal

pub returns : goal.returns
returns c =
    let inside = c.self.inside in
    known_elsewhere inside.form c.args.form.now inside.operands c.args.operands.now (plan.Applied inside.operator inside.structure) c.in_ok-shared.field-0 c.self.invariant (c.if-not-are_one_form.ensures refl)
    (ap by_structures (sym c.as_slice.ensures) ∙ c.if-not-are_all_alike.ensures refl) c.in_ok-shared.ensures
