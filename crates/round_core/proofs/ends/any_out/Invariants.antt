use Rattle.std.proofs.Common.{◌≢◌, ℕ, ◌<◌, get_or}
use Rattle.round_core.specs.declared.slot.Stage.TheVariants.{Out}
use Rattle.round_core.specs.declared.slot.Slot.{Slot}
use Rattle.round_core.proofs.ends.any_out.Given as goal

abbrev pub invariant-loop-slot : goal.invariant-loop-slot
invariant-loop-slot l = (k : ℕ) (d : Slot) → k < l.slot-index → (get_or l.slots k d).stage ≢ Out
