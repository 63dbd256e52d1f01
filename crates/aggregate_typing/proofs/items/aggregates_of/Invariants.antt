use Rattle.std.proofs.Common.{◌≡◌, ◌++◌, drop}
use Rattle.std.specs.Prelude.{filter_map, slice_get}
use Rattle.std.specs.Option.{option_map}
use Rattle.data_set_trees.specs.aggregates.Aggregates.{aggregate_of}
use Rattle.aggregate_typing.proofs.items.aggregates_of.Given as goal

abbrev pub invariant-loop-number : goal.invariant-loop-number
invariant-loop-number l =
    filter_map (λ number. option_map (aggregate_of l.function number) (slice_get l.components number)) l.numbers
    ≡ l.items ++ filter_map (λ number. option_map (aggregate_of l.function number) (slice_get l.components number)) (drop l.number-index l.numbers)
