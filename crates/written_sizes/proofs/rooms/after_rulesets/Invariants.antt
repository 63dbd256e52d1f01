use Rattle.std.proofs.Common.{◌≡◌, drop}
use Rattle.std.specs.List.{flat_map}
use Rattle.operator_faults.specs.Sketches.{of_ruleset}
use Rattle.written_sizes.specs.Rooms.{room_after_all}
use Rattle.written_sizes.proofs.rooms.after_rulesets.Given as goal

abbrev pub invariant-loop-ruleset : goal.invariant-loop-ruleset
invariant-loop-ruleset l = room_after_all 64 l.initial.left (flat_map of_ruleset l.rulesets) ≡ room_after_all 64 l.left (flat_map of_ruleset (drop l.ruleset-index l.rulesets))
