use Rattle.std.proofs.Common.{◌≡◌, ◌++◌, take}
use Rattle.std.specs.List.{flat_map}
use Rattle.written_sizes.specs.Places.{of_datapoint}
use Rattle.written_sizes.proofs.places.put_datapoint.Given as goal

abbrev pub invariant-loop-rule : goal.invariant-loop-rule
invariant-loop-rule l = l.out ≡ l.initial.out ++ flat_map of_datapoint (take l.rule-index l.rules)
