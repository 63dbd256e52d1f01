use Rattle.std.proofs.Common.{◌≡◌, ◌≤◌, pos, nat_abs, FitsSigned, ◌∙◌, ap, arith}
use Rattle.std.proofs.lemmas.Int.{to_z-of_z, to_z_pos}
use Rattle.std.specs.Int.{w128}
use Rattle.vtl_values.specs.Ranges.{MOST_MILLIONTHS}
use Rattle.vtl_decimals.specs.Arithmetic.{nearest, rounded_quotient}
use Rattle.vtl_decimals.proofs.Rounding.{nearest-le, nat_abs-rounded_quotient}
use Rattle.vtl_decimals.proofs.quotients.mean.Goals as goal

pub invariant_of-result : goal.invariant_of-result
invariant_of-result c =
    let fits : FitsSigned w128 c.rounded_quotient.result = record { sfits = c.rounded_quotient.type_inv } in
    let e : c.rounded_quotient.result ≡ rounded_quotient c.args.sum (pos c.args.count) =
    c.rounded_quotient.ensures ∙ (λ i. rounded_quotient (to_z-of_z w128 _ c.ranges.sum i) (to_z_pos w128 c.args.count (omega arith) i)) in
    let size : nat_abs c.rounded_quotient.result ≡ nearest (nat_abs c.args.sum) c.args.count =
    ap nat_abs e ∙ nat_abs-rounded_quotient c.args.sum c.args.count in
    let small : nearest (nat_abs c.args.sum) c.args.count ≤ MOST_MILLIONTHS =
    nearest-le (nat_abs c.args.sum) c.args.count MOST_MILLIONTHS c.requires.counted (omega arith) in
    rw (to_z-of_z w128 c.rounded_quotient.result fits, size) small
