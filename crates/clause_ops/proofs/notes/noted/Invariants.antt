use Rattle.std.proofs.Common.{map, take}
use Rattle.data_model.specs.Deltas.{apply, BeginsAt}
use Rattle.point_sets.specs.DataSets.{DataSet}
use Rattle.point_sets.specs.Changes.{change_entry}
use Rattle.structured_sets.specs.Fitting.{IsSetOf}
use Rattle.data_set_trees.specs.clauses.Frames.{frame_of}
use Rattle.clause_ops.specs.Noted.{IsNoted}
use Rattle.clause_ops.proofs.notes.noted.Given as goal

-- the keys of the changes so far are noted
abbrev pub invariant-loop-change : goal.invariant-loop-change
invariant-loop-change l = (a : DataSet) → IsSetOf l.components a → IsSetOf l.components (apply l.news a) → BeginsAt l.news a → IsNoted l.clause (frame_of l.components) l.news a (map (λ f. f.0) (take l.change-index (map change_entry l.change-items))) l.draft
