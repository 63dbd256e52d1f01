use Rattle.std.proofs.Common.{◌≡◌, map, take}
use Rattle.set_typing.specs.Conditionals.{item_component}
use Rattle.set_typing.proofs.results.item_components.Given as goal

abbrev pub invariant-loop-item : goal.invariant-loop-item
invariant-loop-item l = l.all ≡ map item_component (take l.item-index l.items)
