use Rattle.std.proofs.Common.{◌≡◌, ◌+◌, ◌++◌, List, Some, option_map, drop, rules, sym, ap, ◌∙◌}
use Rattle.vtl_values.specs.declared.value.Value.{Value}
use Rattle.scalar_meaning.specs.Rows.{point_row}
use Rattle.scalar_meaning.specs.Scalars.{meaning}
use Rattle.scalar_eval.specs.Stops.{Stops}
use Rattle.clause_meaning.specs.Clauses.{worked_values}
use Rattle.clause_eval.proofs.Puts.{stops-too, worked-next, worked-stops}
use Rattle.clause_eval.proofs.items.measure_values.Goals as goal

pub returns-in_err-eval : goal.returns-in_err-eval
returns-in_err-eval c =
    let row = point_row c.args.point.now.key c.args.point.now.rest in
    let same : meaning (point_row c.values.result.now c.as_slice.result.now) c.item-item.result.value ≡ meaning row c.item-item.result.value = λ i. meaning (point_row (c.values.ensures i) (c.as_slice.ensures i)) c.item-item.result.value in
    let made : Stops (worked_values row c.args.items.now) c.in_err-eval.field-0.0 =
    stops-too (meaning (point_row c.values.result.now c.as_slice.result.now) c.item-item.result.value) (worked_values row c.args.items.now) c.in_err-eval.field-0.0
    (λ none. c.loop-item.invariant ∙ worked-stops row c.args.items.now c.loop-item.item-index c.item-item.result c.loop-item.values c.loop-item-test.true c.item-item.is (sym same ∙ none))
    c.in_err-eval.ensures.meant in
    search (rules, made)

pub loop-item-preserved : goal.loop-item-preserved
loop-item-preserved c =
    let row = point_row c.args.point.now.key c.args.point.now.rest in
    let found : meaning row c.item-item.result.value ≡ Some c.in_ok-eval.field-0 = sym (λ i. meaning (point_row (c.values.ensures i) (c.as_slice.ensures i)) c.item-item.result.value) ∙ c.in_ok-eval.ensures.meant in
    c.loop-item.invariant
    ∙ worked-next row c.args.items.now c.loop-item.item-index c.item-item.result c.loop-item.values c.loop-item-test.true c.item-item.is c.in_ok-eval.field-0 found
    ∙ ap (λ (values : List Value). option_map (λ (vs : List Value). values ++ vs) (worked_values row (drop (c.loop-item.item-index + 1) c.args.items.now))) (sym c.in_ok-push.ensures.ok)
