use Rattle.std.proofs.Common.{◌≡◌, ◌*ℤ◌, pos, FitsSigned, ◌∙◌, ap, sym, subst, to_z, of_z}
use Rattle.std.proofs.lemmas.Int.{to_z-of_z}
use Rattle.std.specs.Int.{w128, w32}
use Rattle.vtl_values.specs.Ranges.{IsNumber}
use Rattle.vtl_decimals.specs.Arithmetic.{unit_of, rounded_quotient, rounding_of}
use Rattle.vtl_decimals.proofs.Rounding.{number-fits, unit-positive, unit-divides, rounded-IsNumber, unit-nonzero}
use Rattle.vtl_decimals.proofs.places.round.Goals as goal

pub rounded_quotient-requires-clause-nonzero : goal.rounded_quotient-requires-clause-nonzero
rounded_quotient-requires-clause-nonzero c =
    let fits : FitsSigned w128 c.unit_of-unit.result = record { sfits = c.unit_of-unit.type_inv } in
    let e : c.unit_of-unit.result ≡ pos (unit_of c.args.digits) = c.unit_of-unit.ensures ∙ ap (λ d. pos (unit_of d)) (to_z-of_z w32 _ c.ranges.digits) in
    unit-nonzero c.args.digits _ (to_z-of_z w128 _ fits ∙ e)

-- the rounded number, before it is put into a type
rounded-is : (c : goal.After-rounded_quotient) → to_z w128 (of_z w128 c.rounded_quotient.result) *ℤ to_z w128 (of_z w128 c.unit_of-unit.result) ≡ rounding_of c.args.a c.args.digits
rounded-is c =
    let unit_fits : FitsSigned w128 c.unit_of-unit.result = record { sfits = c.unit_of-unit.type_inv } in
    let fits : FitsSigned w128 c.rounded_quotient.result = record { sfits = c.rounded_quotient.type_inv } in
    let a_is : to_z w128 (of_z w128 c.a.inside.millionths) ≡ c.args.a = to_z-of_z w128 _ (number-fits _ c.a.invariant) ∙ c.a.view_is in
    let unit_is : to_z w128 (of_z w128 c.unit_of-unit.result) ≡ pos (unit_of c.args.digits) =
    to_z-of_z w128 _ unit_fits ∙ c.unit_of-unit.ensures ∙ ap (λ d. pos (unit_of d)) (to_z-of_z w32 _ c.ranges.digits) in
    let e : to_z w128 (of_z w128 c.rounded_quotient.result) ≡ rounded_quotient c.args.a (pos (unit_of c.args.digits)) =
    to_z-of_z w128 _ fits ∙ c.rounded_quotient.ensures ∙ (λ i. rounded_quotient (a_is i) (unit_is i)) in
    (λ i. e i *ℤ unit_is i)

in_range : (c : goal.After-rounded_quotient) → IsNumber (rounding_of c.args.a c.args.digits)
in_range c =
    rounded-IsNumber c.args.a (unit_of c.args.digits) _ (unit-positive c.args.digits) (unit-divides c.args.digits c.requires.from c.requires.to)
    (subst IsNumber c.a.view_is c.a.invariant)

pub overflow_mul-result : goal.overflow_mul-result
overflow_mul-result c = subst (FitsSigned w128) (sym (rounded-is c)) (number-fits _ (in_range c))

pub invariant_of-result : goal.invariant_of-result
invariant_of-result c =
    subst IsNumber (sym (to_z-of_z w128 _ (overflow_mul-result c) ∙ rounded-is c)) (in_range c)

pub returns : goal.returns
returns c = to_z-of_z w128 _ (overflow_mul-result c) ∙ rounded-is c
