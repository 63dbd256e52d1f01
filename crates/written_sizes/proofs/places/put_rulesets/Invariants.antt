use Rattle.std.proofs.Common.{◌≡◌, ◌++◌, take}
use Rattle.std.specs.List.{flat_map}
use Rattle.written_sizes.specs.Places.{of_ruleset}
use Rattle.written_sizes.proofs.places.put_rulesets.Given as goal

abbrev pub invariant-loop-ruleset : goal.invariant-loop-ruleset
invariant-loop-ruleset l = l.out ≡ l.initial.out ++ flat_map of_ruleset (take l.ruleset-index l.rulesets)
