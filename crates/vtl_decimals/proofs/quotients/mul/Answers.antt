use Rattle.std.proofs.Common.{◌≡◌, ◌*◌, ◌+◌, ◌/◌, nat_abs, FitsSigned, ◌∙◌, ap, arith}
use Rattle.std.proofs.lemmas.Int.{to_z-of_z}
use Rattle.std.specs.Int.{w128, is_negative}
use Rattle.vtl_decimals.specs.Arithmetic.{nearest, number_of}
use Rattle.vtl_decimals.proofs.Rounding.{nearest-mul, product-room, number-fits, rounded_product-signs}
use Rattle.vtl_decimals.proofs.quotients.mul.Goals as goal

pub signed-requires : goal.signed-requires
signed-requires c =
    let a_fits : FitsSigned w128 c.a.inside.millionths = number-fits _ c.a.invariant in
    let b_fits : FitsSigned w128 c.b.inside.millionths = number-fits _ c.b.invariant in
    let x_is : c.unsigned_abs-x.result ≡ nat_abs c.a.inside.millionths = c.unsigned_abs-x.ensures.value ∙ ap nat_abs (to_z-of_z w128 _ a_fits) in
    let y_is : c.unsigned_abs-y.result ≡ nat_abs c.b.inside.millionths = c.unsigned_abs-y.ensures.value ∙ ap nat_abs (to_z-of_z w128 _ b_fits) in
    let whole = nearest-mul c.unsigned_abs-x.result c.unsigned_abs-y.result 1000000 (omega arith) in
    let room = product-room c.unsigned_abs-x.result c.unsigned_abs-y.result (omega (arith, c.a.invariant)) (omega (arith, c.b.invariant)) in
    rw (c.nearest.ensures, whole) room

pub returns : goal.returns
returns c =
    let a_fits : FitsSigned w128 c.a.inside.millionths = number-fits _ c.a.invariant in
    let b_fits : FitsSigned w128 c.b.inside.millionths = number-fits _ c.b.invariant in
    let fits : FitsSigned w128 c.signed.result = record { sfits = c.signed.type_inv } in
    let x_is : c.unsigned_abs-x.result ≡ nat_abs c.args.a = c.unsigned_abs-x.ensures.value ∙ ap nat_abs (to_z-of_z w128 _ a_fits ∙ c.a.view_is) in
    let y_is : c.unsigned_abs-y.result ≡ nat_abs c.args.b = c.unsigned_abs-y.ensures.value ∙ ap nat_abs (to_z-of_z w128 _ b_fits ∙ c.b.view_is) in
    c.total.ensures
    ∙ ap number_of (to_z-of_z w128 _ fits ∙ c.signed.ensures
    ∙ rounded_product-signs c.args.a c.args.b _ _ _ 1000000 (omega arith)
    (c.is_negative.ensures ∙ ap is_negative (to_z-of_z w128 _ a_fits ∙ c.a.view_is))
    (c.is_negative-2.ensures ∙ ap is_negative (to_z-of_z w128 _ b_fits ∙ c.b.view_is))
    (ap (λ n. c.unsigned_abs-x.result / 1000000 * c.unsigned_abs-y.result + n) c.nearest.ensures
    ∙ nearest-mul c.unsigned_abs-x.result c.unsigned_abs-y.result 1000000 (omega arith)
    ∙ (λ i. nearest (x_is i * y_is i) 1000000)))
