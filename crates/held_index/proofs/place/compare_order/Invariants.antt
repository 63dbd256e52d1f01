use Rattle.std.proofs.Common.{◌≡◌, drop}
use Rattle.held_index.specs.Walks.{order_cmp, point_values}
use Rattle.held_index.proofs.place.compare_order.Given as goal

abbrev pub invariant-loop-item : goal.invariant-loop-item
invariant-loop-item l = order_cmp (drop l.item-index l.order) (point_values l.one) (point_values l.other) ≡ order_cmp l.order (point_values l.one) (point_values l.other)
