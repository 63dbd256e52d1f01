use Rattle.std.proofs.Common.{◌≡◌, ℕ, ◌<◌, length, get_or}
use Rattle.round_core.specs.Inputs.{Carries}
use Rattle.round_core.specs.declared.inputs.InputChange.{InputChange}
use Rattle.round_core.proofs.inputs.Inputs.carried.Given as goal

abbrev pub invariant-loop-change : goal.invariant-loop-change
invariant-loop-change l = (length l.next.items ≡ l.change-index) × ((i : ℕ) (d e : InputChange) → i < l.change-index → Carries (get_or l.changes i d) (get_or l.next.items i e))
