use Rattle.std.proofs.Common.{◌≤◌, ◌++◌, ◌∷◌, [], length, take}
use Rattle.round_core.specs.Inputs.{LeadAlike, changes_in}
use Rattle.round_core.proofs.runs.Runs.whole.Given as goal

-- the runs that are left and the others as one lead as all do
abbrev pub invariant-loop-left : goal.invariant-loop-left
invariant-loop-left l = (l.left ≤ length l.self.runs.items) × LeadAlike (changes_in l.self) (take l.left (changes_in l.self) ++ l.whole ∷ [])

abbrev pub decreases-loop-left : goal.decreases-loop-left
decreases-loop-left l = l.left
