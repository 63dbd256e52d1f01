use Rattle.std.proofs.Common.{◌≡◌, ℕ, ◌<◌, length, get_or}
use Rattle.std.specs.FinMap.{empty}
use Rattle.point_sets.specs.DataSets.{DataSet}
use Rattle.round_core.specs.Inputs.{ChangeKept}
use Rattle.round_core.specs.declared.inputs.InputChange.{InputChange}
use Rattle.round_core.proofs.inputs.Inputs.new.Given as goal

abbrev pub invariant-loop-n : goal.invariant-loop-n
invariant-loop-n l = (length l.sets.items ≡ l.n) × (length l.changes.items ≡ l.n) × ((i : ℕ) (d : DataSet) → i < l.n → get_or l.sets.items i d ≡ empty) × ((i : ℕ) (d : InputChange) → i < l.n → ChangeKept empty empty empty (get_or l.changes.items i d))
