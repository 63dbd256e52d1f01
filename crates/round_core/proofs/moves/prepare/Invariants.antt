use Rattle.std.proofs.Common.{◌≡◌, ℕ, ◌<◌, ◌≤◌, length, get_or}
use Rattle.round_core.specs.Slots.{SameHome}
use Rattle.round_core.specs.Steps.{IsPrepared}
use Rattle.round_core.specs.declared.slot.Slot.{Slot}
use Rattle.round_core.proofs.moves.prepare.Given as goal

-- the slots below i are ready, and the others are as they were
abbrev pub invariant-loop-i : goal.invariant-loop-i
invariant-loop-i l = (length l.slots.items ≡ length l.initial.slots.items) × ((j : ℕ) (d : Slot) → j < l.i → SameHome (get_or l.initial.slots.items j d) (get_or l.slots.items j d) × IsPrepared l.changes (get_or l.slots.items j d)) × ((j : ℕ) (d : Slot) → l.i ≤ j → get_or l.slots.items j d ≡ get_or l.initial.slots.items j d)
