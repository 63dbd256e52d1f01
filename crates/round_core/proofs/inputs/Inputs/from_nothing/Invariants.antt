use Rattle.std.proofs.Common.{◌≡◌, ℕ, ◌<◌, length, get_or}
use Rattle.std.specs.FinMap.{empty}
use Rattle.revision_judge.specs.Judging.{input}
use Rattle.round_core.specs.Inputs.{ChangeKept}
use Rattle.round_core.specs.declared.inputs.InputChange.{InputChange}
use Rattle.round_core.proofs.inputs.Inputs.from_nothing.Given as goal

abbrev pub invariant-loop-set : goal.invariant-loop-set
invariant-loop-set l = (length l.changes.items ≡ l.set-index) × ((i : ℕ) (d : InputChange) → i < l.set-index → ChangeKept empty (input l.sets i) (input l.sets i) (get_or l.changes.items i d))
