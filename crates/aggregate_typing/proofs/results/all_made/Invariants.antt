use Rattle.std.proofs.Common.{◌≡◌, map, take}
use Rattle.data_set_trees.specs.aggregates.Results.{made_by}
use Rattle.aggregate_typing.proofs.results.all_made.Given as goal

abbrev pub invariant-loop-item : goal.invariant-loop-item
invariant-loop-item l = l.all ≡ map made_by (take l.item-index l.items)
