use Rattle.std.proofs.Common.{◌≡◌, ◌++◌, drop}
use Rattle.std.specs.Prelude.{filter_map, slice_get}
use Rattle.clause_typing.proofs.parts.picked_components.Given as goal

abbrev pub invariant-loop-number : goal.invariant-loop-number
invariant-loop-number l = filter_map (slice_get l.components) l.numbers ≡ l.picked ++ filter_map (slice_get l.components) (drop l.number-index l.numbers)
