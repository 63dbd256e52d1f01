use Rattle.std.proofs.Common.{◌≡◌, take}
use Rattle.tree_copies.proofs.windows.copy_order_items.Given as goal

abbrev pub invariant-loop-item : goal.invariant-loop-item
invariant-loop-item l = l.copy ≡ take l.item-index l.items
