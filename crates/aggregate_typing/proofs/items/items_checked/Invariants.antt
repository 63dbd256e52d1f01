use Rattle.std.proofs.Common.{◌≡◌, ◌++◌, drop, Ok}
use Rattle.scalar_trees.specs.typing.Steps.{◌>>=◌}
use Rattle.data_set_trees.specs.aggregates.Aggregates.{items_checked}
use Rattle.aggregate_typing.proofs.items.items_checked.Given as goal

abbrev pub invariant-loop-item : goal.invariant-loop-item
invariant-loop-item l = items_checked l.scope l.items ≡ (items_checked l.scope (drop l.item-index l.items) >>= (λ checked. Ok (l.checked ++ checked)))
