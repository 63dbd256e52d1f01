use Rattle.std.proofs.Common.{ℕ, ◌<◌, get_or}
use Rattle.round_core.specs.Slots.{ReadyIn}
use Rattle.round_core.proofs.ends.first_ready.Given as goal

abbrev pub invariant-loop-i : goal.invariant-loop-i
invariant-loop-i l = (k d : ℕ) → k < l.i-index → ¬ (ReadyIn l.slots (get_or l.order k d))
