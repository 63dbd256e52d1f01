use Rattle.std.proofs.Common.{◌≡◌, ◌++◌, drop}
use Rattle.std.specs.Prelude.{filter_map, slice_get}
use Rattle.result_components.proofs.components.with_numbers.Given as goal

abbrev pub invariant-loop-number : goal.invariant-loop-number
invariant-loop-number l = filter_map (slice_get l.components) l.numbers ≡ l.found ++ filter_map (slice_get l.components) (drop l.number-index l.numbers)
