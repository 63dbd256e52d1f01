use Rattle.std.proofs.Common.{◌≡◌, map, take}
use Rattle.data_set_trees.specs.windows.Results.{as_item}
use Rattle.window_typing.proofs.calc.as_items.Given as goal

abbrev pub invariant-loop-item : goal.invariant-loop-item
invariant-loop-item l = l.plain ≡ map as_item (take l.item-index l.items)
