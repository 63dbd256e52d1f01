use Rattle.std.proofs.Common.{◌≡◌, ◌<ℤ◌, ◌<◌, pos, FitsSigned, ◌∙◌, ap, sym, subst, to_z, of_z, int_div, arith}
use Rattle.std.proofs.lemmas.Int.{to_z-of_z, quot_fits, ints}
use Rattle.std.specs.Int.{w128, w32}
use Rattle.vtl_values.specs.Ranges.{IsNumber}
use Rattle.vtl_decimals.specs.Arithmetic.{unit_of, truncation_of}
use Rattle.vtl_decimals.proofs.Rounding.{number-fits, unit-positive, cut-IsNumber}
use Rattle.vtl_decimals.proofs.places.trunc.Goals as goal

unit-is : (c : goal.After-struct_told-1) → c.unit_of-unit.result ≡ pos (unit_of c.args.digits)
unit-is c = c.unit_of-unit.ensures ∙ ap (λ d. pos (unit_of d)) (to_z-of_z w32 _ c.ranges.digits)

unit-read : (c : goal.After-struct_told-1) → to_z w128 (of_z w128 c.unit_of-unit.result) ≡ pos (unit_of c.args.digits)
unit-read c =
    let fits : FitsSigned w128 c.unit_of-unit.result = record { sfits = c.unit_of-unit.type_inv } in
    to_z-of_z w128 _ fits ∙ unit-is c

a-read : (c : goal.After-struct_told-1) → to_z w128 (of_z w128 c.a.inside.millionths) ≡ c.args.a
a-read c = to_z-of_z w128 _ (number-fits _ c.a.invariant) ∙ c.a.view_is

pub nonzero_div-result : goal.nonzero_div-result
nonzero_div-result c =
    let positive = unit-positive c.args.digits in
    let a_fits : FitsSigned w128 c.args.a = number-fits _ (subst IsNumber c.a.view_is c.a.invariant) in
    let above : pos 0 <ℤ pos (unit_of c.args.digits) = omega (arith, ints, positive) in
    let fits : FitsSigned w128 (int_div c.args.a (pos (unit_of c.args.digits))) = quot_fits w128 _ _ a_fits above in (
      subst (λ z. 0 < of_z w128 z) (sym (unit-is c)) positive,
      subst (FitsSigned w128) (λ i. int_div (sym (a-read c) i) (sym (unit-read c) i)) fits,
    )

pub invariant_of-result : goal.invariant_of-result
invariant_of-result c =
    let e : to_z w128 (of_z w128 (int_div (to_z w128 (of_z w128 c.a.inside.millionths)) (to_z w128 (of_z w128 c.unit_of-unit.result)))) ≡ int_div c.args.a (pos (unit_of c.args.digits)) =
    to_z-of_z w128 _ (nonzero_div-result c).1 ∙ (λ i. int_div (a-read c i) (unit-read c i)) in
    let cut : IsNumber (truncation_of c.args.a c.args.digits) =
    cut-IsNumber c.args.a (unit_of c.args.digits) (subst IsNumber c.a.view_is c.a.invariant) in
    rw (e, unit-read c, to_z-of_z w128 _ (number-fits _ cut)) cut
