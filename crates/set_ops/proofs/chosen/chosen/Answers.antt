use Rattle.std.proofs.Common.{◌≡◌, List, Option, sym, subst, ◌∙◌, IfOk}
use Rattle.vtl_values.specs.declared.value.Value.{Value}
use Rattle.point_sets.specs.Changes.{values_of}
use Rattle.set_ops.proofs.Taken.{chosen-stays, chosen-goes}
use Rattle.set_ops.proofs.chosen.chosen.Goals as goal

pub returns-then-stays-clause-value : goal.returns-then-stays-clause-value
returns-then-stays-clause-value c =
    subst (λ (v : Option (List Value)). IfOk c.leftmost.result (λ point. values_of point ≡ v))
    (sym (chosen-stays c.args.operation c.args.readings.now c.args.points.now c.requires (sym c.stays.ensures ∙ c.if-stays.true))) c.leftmost.ensures.value

pub returns-else-stays-clause-value : goal.returns-else-stays-clause-value
returns-else-stays-clause-value c = sym (chosen-goes c.args.operation c.args.readings.now c.args.points.now c.requires (sym c.stays.ensures ∙ c.if-stays.false))
