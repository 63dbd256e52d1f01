use Rattle.std.proofs.Common.{◌≡◌, map, drop}
use Rattle.point_sets.specs.Changes.{values_of}
use Rattle.data_set_trees.specs.clauses.Frames.{frame_of}
use Rattle.clause_meaning.specs.Clauses.{key_with_name, measures}
use Rattle.clause_ops.specs.Noted.{noted_at}
use Rattle.clause_ops.proofs.Measured.{value_of_key}
use Rattle.clause_ops.proofs.notes.note_measures.Given as goal

-- what is left to note of the draft so far is what was to be noted of the first one
abbrev pub invariant-loop-i : goal.invariant-loop-i
invariant-loop-i l =
    noted_at (value_of_key (frame_of l.components) l.change.key (values_of l.change.old)) (value_of_key (frame_of l.components) l.change.key (values_of l.change.new)) (map (key_with_name l.change.key) (measures l.components)) l.fn.draft
    ≡ noted_at (value_of_key (frame_of l.components) l.change.key (values_of l.change.old)) (value_of_key (frame_of l.components) l.change.key (values_of l.change.new)) (map (key_with_name l.change.key) (measures (drop l.i l.components))) l.draft
