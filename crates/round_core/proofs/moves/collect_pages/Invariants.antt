use Rattle.std.proofs.Common.{◌≡◌, ℕ, ◌+◌, ◌<◌, ◌≤◌, ◌++◌, length, get_or, take, vec_capacity}
use Rattle.round_core.specs.Slots.{SameHome, pages_in}
use Rattle.round_core.specs.declared.slot.Slot.{Slot}
use Rattle.round_core.proofs.moves.collect_pages.Given as goal

-- the pages of the slots below i are taken, and the others are as they were; there is room for theirs
abbrev pub invariant-loop-i : goal.invariant-loop-i
invariant-loop-i l = (length l.slots.items ≡ length l.initial.slots.items) × ((j : ℕ) (d : Slot) → j < l.i → SameHome (get_or l.initial.slots.items j d) (get_or l.slots.items j d)) × ((j : ℕ) (d : Slot) → l.i ≤ j → get_or l.slots.items j d ≡ get_or l.initial.slots.items j d) × (l.room.items ≡ l.initial.room.items ++ pages_in (take l.i l.initial.slots.items)) × (length l.room.items + (length l.initial.slots.items) ≤ vec_capacity l.room + l.i)
