use Rattle.std.proofs.Common.{nat_abs, FitsSigned, ◌∙◌, ap}
use Rattle.std.proofs.lemmas.Int.{to_z-of_z}
use Rattle.std.specs.Int.{w128, is_negative}
use Rattle.vtl_decimals.specs.Arithmetic.{nearest}
use Rattle.vtl_decimals.proofs.Rounding.{rounded_quotient-signs}
use Rattle.vtl_decimals.proofs.quotients.rounded_quotient.Goals as goal

pub returns : goal.returns
returns c =
    let fits : FitsSigned w128 c.signed.result = record { sfits = c.signed.type_inv } in
    to_z-of_z w128 _ fits ∙ c.signed.ensures
    ∙ rounded_quotient-signs c.args.a c.args.b _ _ _ c.requires.nonzero
    (c.is_negative.ensures ∙ ap is_negative (to_z-of_z w128 _ c.ranges.a))
    (c.is_negative-2.ensures ∙ ap is_negative (to_z-of_z w128 _ c.ranges.b))
    (c.nearest-size.ensures ∙ (λ i. nearest (c.unsigned_abs.ensures.value i) (c.unsigned_abs-2.ensures.value i))
    ∙ (λ i. nearest (nat_abs (to_z-of_z w128 _ c.ranges.a i)) (nat_abs (to_z-of_z w128 _ c.ranges.b i))))
