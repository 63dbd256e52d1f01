use Rattle.std.proofs.Common.{◌≡◌, ℕ, ◌<◌, ◌≤◌, ◌++◌, List, length, get_or, drop}
use Rattle.std.specs.Prelude.{count_by}
use Rattle.std.specs.declared.sync.Arc.{Arc}
use Rattle.std.specs.declared.alloc.Global.{Global}
use Rattle.point_sets.specs.Changes.{Changes}
use Rattle.round_core.specs.Slots.{HandedOn, names_it}
use Rattle.round_core.specs.declared.slot.Slot.{Slot}
use Rattle.round_core.proofs.moves.hand_on.Given as goal

-- the slots below i have a change in their places, and the others are as they were; enough are left for these
abbrev pub invariant-loop-i : goal.invariant-loop-i
invariant-loop-i l = (length l.slots.items ≡ length l.initial.slots.items) × ((j : ℕ) (d : Slot) → j < l.i → HandedOn l.statement l.initial.rest.items (get_or l.initial.slots.items j d) (get_or l.slots.items j d)) × ((j : ℕ) (d : Slot) → l.i ≤ j → get_or l.slots.items j d ≡ get_or l.initial.slots.items j d) × (count_by (names_it l.statement) (drop l.i l.initial.slots.items) ≤ length l.rest.items) × ((gone : List (Arc Changes Global)) × (l.rest.items ++ gone ≡ l.initial.rest.items))
