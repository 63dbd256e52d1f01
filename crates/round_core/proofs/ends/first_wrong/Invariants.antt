use Rattle.std.proofs.Common.{ℕ, ◌<◌, get_or}
use Rattle.round_core.specs.Slots.{IsFaultFree}
use Rattle.round_core.specs.declared.slot.Slot.{Slot}
use Rattle.round_core.proofs.ends.first_wrong.Given as goal

abbrev pub invariant-loop-i : goal.invariant-loop-i
invariant-loop-i l = (k : ℕ) (d : Slot) → k < l.i → IsFaultFree (get_or l.slots k d)
