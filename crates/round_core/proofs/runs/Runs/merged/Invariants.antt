use Rattle.std.proofs.Common.{◌≤◌, ◌++◌, ◌∷◌, [], length, take}
use Rattle.round_core.specs.Inputs.{LeadAlike, changes_in}
use Rattle.round_core.proofs.runs.Runs.merged.Given as goal

-- the runs that are left and the last one lead as all do
abbrev pub invariant-loop-kept : goal.invariant-loop-kept
invariant-loop-kept l = (l.kept ≤ length l.self.runs.items) × LeadAlike (changes_in l.self ++ l.fn.delta ∷ []) (take l.kept (changes_in l.self) ++ l.last ∷ [])

abbrev pub decreases-loop-kept : goal.decreases-loop-kept
decreases-loop-kept l = l.kept
