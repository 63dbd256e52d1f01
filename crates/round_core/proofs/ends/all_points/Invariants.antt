use Rattle.std.proofs.Common.{◌≡◌, take}
use Rattle.round_core.specs.Slots.{points_in_all}
use Rattle.round_core.specs.Answers.{told}
use Rattle.round_core.proofs.ends.all_points.Given as goal

abbrev pub invariant-loop-slot : goal.invariant-loop-slot
invariant-loop-slot l = l.all ≡ told (points_in_all (take l.slot-index l.slots))
