use Rattle.std.proofs.Common.{◌≡◌, ℕ, ◌<◌, length, get_or}
use Rattle.round_core.specs.Steps.{IsFirstSlot}
use Rattle.round_core.specs.declared.slot.Slot.{Slot}
use Rattle.round_core.proofs.moves.first_slots.Given as goal

abbrev pub invariant-loop-i : goal.invariant-loop-i
invariant-loop-i l = (length l.slots.items ≡ l.i) × ((j : ℕ) (d : Slot) → j < l.i → IsFirstSlot l.script j (get_or l.slots.items j d))
