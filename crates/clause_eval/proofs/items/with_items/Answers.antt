use Rattle.std.proofs.Common.{◌≡◌, ◌+◌, Some, drop, sym, ap, ◌∙◌}
use Rattle.scalar_meaning.specs.Rows.{point_row}
use Rattle.scalar_meaning.specs.Scalars.{meaning}
use Rattle.clause_eval.proofs.Puts.{put_from, put-next}
use Rattle.clause_eval.proofs.items.with_items.Goals as goal

pub loop-item-preserved : goal.loop-item-preserved
loop-item-preserved c =
    let row = point_row c.args.point.now.key c.args.point.now.rest in
    let found : meaning row c.item-item.result.value ≡ Some c.in_ok-value.value = sym (λ i. meaning (point_row (c.values.ensures i) (c.as_slice.ensures i)) c.item-item.result.value) ∙ c.in_ok-value.ensures.meant in
    c.loop-item.invariant
    ∙ put-next row c.args.items.now c.loop-item.item-index c.item-item.result c.loop-item.values c.loop-item-test.true c.item-item.is c.in_ok-value.value found
    ∙ ap (put_from row (drop (c.loop-item.item-index + 1) c.args.items.now)) (sym c.in_ok-put.ensures)
