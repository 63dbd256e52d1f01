use Rattle.std.proofs.Common.{◌≡◌, Ok, List, ap, sym, ◌∙◌}
use Rattle.data_set_trees.specs.declared.clauses.clause.CheckedMeasure.{CheckedMeasure}
use Rattle.scalar_trees.specs.typing.Steps.{◌>>=◌}
use Rattle.operator_typing.proofs.Steps.{goes_on, stops_same, stops_there, fails_there, fails_after}
use Rattle.data_set_trees.specs.Pairs.{result_fits, joined}
use Rattle.data_set_typing.specs.declared.plan.Plan.TheVariants as plan
use Rattle.data_set_typing.specs.Plans.{items_on_two, of_two}
use Rattle.data_set_typing.proofs.call.Call.planned_on_two.Goals as goal

pub returns-in_err-items-clause-err : goal.returns-in_err-items-clause-err
returns-in_err-items-clause-err c =
    let call = c.args.self.now in
    let s = c.args.structure.now in
    let t = c.args.other.now in
    let stop = c.in_err-items.field-0.0 in
    let of = items_on_two call.form.now call.place call.operands.now c.args.changed.now in
    let same : of c.components.result.now c.components-2.result.now ≡ of s t = λ i. of (c.components.ensures.value i) (c.components-2.ensures.value i) in
    fails_there (of s t) (λ items. result_fits call.place (joined items s t) >>= (λ fits. Ok (of_two s t items))) c.from_residual.result stop (stops_same (of c.components.result.now c.components-2.result.now) (of s t) stop same c.in_err-items.ensures.err) c.from_residual.ensures.1

pub returns-in_err-structure-clause-err : goal.returns-in_err-structure-clause-err
returns-in_err-structure-clause-err c =
    let call = c.args.self.now in
    let s = c.args.structure.now in
    let t = c.args.other.now in
    let items = c.in_ok-items.items in
    let stop = c.in_err-structure.field-0.0 in
    let of = items_on_two call.form.now call.place call.operands.now c.args.changed.now in
    let answered : of s t ≡ Ok items = sym (λ i. of (c.components.ensures.value i) (c.components-2.ensures.value i)) ∙ c.in_ok-items.ensures.ok in
    let fit = λ (l : List CheckedMeasure). result_fits call.place (joined l s t) in
    let refuses = stops_same (fit c.as_slice.result.now) (fit items) stop (ap fit c.as_slice.ensures) c.in_err-structure.ensures.err in
    fails_after (of s t) (λ items. fit items >>= (λ fits. Ok (of_two s t items))) items c.from_residual-in_err-structure.result stop answered
    (stops_there (fit items) (λ fits. Ok (of_two s t items)) stop refuses) c.from_residual-in_err-structure.ensures.1

pub returns-clause-ok : goal.returns-clause-ok
returns-clause-ok c =
    let call = c.args.self.now in
    let s = c.args.structure.now in
    let t = c.args.other.now in
    let items = c.in_ok-items.items in
    let of = items_on_two call.form.now call.place call.operands.now c.args.changed.now in
    let answered : of s t ≡ Ok items = sym (λ i. of (c.components.ensures.value i) (c.components-2.ensures.value i)) ∙ c.in_ok-items.ensures.ok in
    let fit = λ (l : List CheckedMeasure). result_fits call.place (joined l s t) in
    let fits : fit items ≡ Ok tt = ap fit (sym c.as_slice.ensures) ∙ c.in_ok-structure.ensures.fits in
    let is : c.in_ok-structure.structure ≡ joined items s t = c.in_ok-structure.ensures.ok ∙ ap (λ (l : List CheckedMeasure). joined l s t) c.as_slice.ensures in
    goes_on (of s t) (λ items. fit items >>= (λ fits. Ok (of_two s t items))) items answered
    ∙ goes_on (fit items) (λ fits. Ok (of_two s t items)) tt fits
    ∙ (λ i. Ok (plan.Applied (sym c.in_ok-of.ensures i) (sym is i)))
