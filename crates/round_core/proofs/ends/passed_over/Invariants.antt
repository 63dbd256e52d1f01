use Rattle.std.proofs.Common.{◌-◌, length, take}
use Rattle.round_core.specs.Kept.{NoneWaits}
use Rattle.round_core.proofs.ends.passed_over.Given as goal

abbrev pub invariant-loop-passed : goal.invariant-loop-passed
invariant-loop-passed l = NoneWaits l.slots (take l.passed l.order)

abbrev pub decreases-loop-passed : goal.decreases-loop-passed
decreases-loop-passed l = length l.order - l.passed
