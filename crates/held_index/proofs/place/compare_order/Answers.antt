use Rattle.std.proofs.Common.{sym, ◌∙◌}
use Rattle.held_index.specs.Walks.{point_values}
use Rattle.held_index.proofs.Compared.{order_decided}
use Rattle.held_index.proofs.place.compare_order.Goals as goal

pub returns-then-is_ne : goal.returns-then-is_ne
returns-then-is_ne c =
    order_decided (point_values c.args.one.now) (point_values c.args.other.now) c.args.order.now c.loop-item.item-index _ c.compare_item-by_item.result c.loop-item-test.true c.compare_item-by_item.ensures (sym c.is_ne.ensures ∙ c.if-is_ne.true) c.loop-item.invariant
