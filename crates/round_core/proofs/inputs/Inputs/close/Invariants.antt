use Rattle.std.proofs.Common.{◌≡◌, ℕ, ◌<◌, ◌≤◌, length, get_or}
use Rattle.round_core.specs.Inputs.{closed}
use Rattle.round_core.specs.declared.inputs.InputChange.{InputChange}
use Rattle.round_core.proofs.inputs.Inputs.close.Given as goal

-- the changes below i are closed, and the others are as they were
abbrev pub invariant-loop-i : goal.invariant-loop-i
invariant-loop-i l = (length l.self.changes.items ≡ length l.initial.self.changes.items) × (l.self.sets ≡ l.initial.self.sets) × ((j : ℕ) (d : InputChange) → j < l.i → get_or l.self.changes.items j d ≡ closed (get_or l.initial.self.changes.items j d)) × ((j : ℕ) (d : InputChange) → l.i ≤ j → get_or l.self.changes.items j d ≡ get_or l.initial.self.changes.items j d)
