use Rattle.std.proofs.Common.{◌≡◌, drop}
use Rattle.std.specs.List.{flat_map}
use Rattle.operator_faults.specs.Sketches.{of_hierarchy}
use Rattle.written_sizes.specs.Rooms.{room_after_all}
use Rattle.written_sizes.proofs.rooms.after_hierarchy.Given as goal

abbrev pub invariant-loop-rule : goal.invariant-loop-rule
invariant-loop-rule l = room_after_all 64 l.initial.left (flat_map of_hierarchy l.rules) ≡ room_after_all 64 l.left (flat_map of_hierarchy (drop l.rule-index l.rules))
