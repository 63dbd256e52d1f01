use Rattle.std.proofs.Common.{◌≡◌, drop, map}
use Rattle.std.specs.Prelude.{fold}
use Rattle.operator_faults.specs.declared.outline.Outline.{out-Outline}
use Rattle.operator_faults.specs.Calls.{operator_of}
use Rattle.written_sizes.specs.Arithmetic.{limited}
use Rattle.written_sizes.specs.Weights.{start, unit_of, own_of, params_of, form_of, with_arguments, weight}
use Rattle.written_sizes.proofs.weights.+weigh.Given as goal

abbrev pub invariant-node-loop-part : goal.invariant-node-loop-part
invariant-node-loop-part l =
    let r = limited l.measure in
    let w = weight r l.measure l.operators l.forms l.params l.share in
    fold r.add (start r l.measure (unit_of l.share) (out-Outline l.outline).what) (map w l.parts) ≡ fold r.add l.total (map w (drop l.part-index l.parts))

abbrev pub invariant-call_weight-loop-i : goal.invariant-call_weight-loop-i
invariant-call_weight-loop-i l =
    let r = limited l.measure in
    let w = weight r l.measure l.operators l.forms l.params l.share in
    let u = unit_of l.share in
    let form = form_of l.operators l.forms l.name in
    let ps = params_of (operator_of l.operators l.name) in
    with_arguments r l.measure u ps form 0 (r.multiply (own_of l.measure form) u) (map w l.arguments) ≡ with_arguments r l.measure u ps form l.i l.total (map w (drop l.i l.arguments))
