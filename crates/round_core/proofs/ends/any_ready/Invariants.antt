use Rattle.std.proofs.Common.{ℕ, ◌<◌}
use Rattle.round_core.specs.Slots.{ReadyIn}
use Rattle.round_core.proofs.ends.any_ready.Given as goal

abbrev pub invariant-loop-i : goal.invariant-loop-i
invariant-loop-i l = (j : ℕ) → j < l.i → ¬ (ReadyIn l.slots j)
