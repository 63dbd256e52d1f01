use Rattle.std.proofs.Common.{◌≡◌, ◌++◌, drop}
use Rattle.std.specs.Prelude.{filter_map}
use Rattle.data_set_trees.specs.windows.Parts.{ordered_by}
use Rattle.window_typing.proofs.parts.order_of.Given as goal

abbrev pub invariant-loop-item : goal.invariant-loop-item
invariant-loop-item l = filter_map (ordered_by l.frame) l.items ≡ l.order ++ filter_map (ordered_by l.frame) (drop l.item-index l.items)
