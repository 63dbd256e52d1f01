use Rattle.std.proofs.Common.{◌≡◌, take}
use Rattle.std.specs.List.{flat_map}
use Rattle.operator_faults.specs.Sketches.{of_ruleset}
use Rattle.operator_faults.proofs.sketch.rulesets.Given as goal

abbrev pub invariant-loop-ruleset : goal.invariant-loop-ruleset
invariant-loop-ruleset l = l.outlines ≡ flat_map of_ruleset (take l.ruleset-index l.rulesets)
