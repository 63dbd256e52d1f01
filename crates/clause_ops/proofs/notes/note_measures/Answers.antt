-- One component more: a measure is noted, and no other one.
use Rattle.std.proofs.Common.{◌≡◌, ◌+◌, Some, true, false, drop, sym, ap, ◌∙◌}
use Rattle.std.proofs.lemmas.Option.{slice_get-get_or}
use Rattle.vtl_values.specs.declared.kind.Role.TheVariants.{Measure}
use Rattle.point_sets.specs.Changes.{values_of}
use Rattle.data_set_trees.specs.clauses.Frames.{frame_of, has_role}
use Rattle.clause_eval.specs.Measures.{IsMeasureAt}
use Rattle.clause_ops.proofs.Measured.{left, left-passed, left-noted}
use Rattle.clause_ops.proofs.notes.note_measures.Goals as goal
use Rattle.clause_ops.proofs.notes.note_measures.Goals.{then-is_measure+in_ok-note_measure, else-is_measure}

pub loop-i-preserved : goal.loop-i-preserved
loop-i-preserved c =
    let components = c.args.components.now in
    let frame = frame_of components in
    let key = c.args.change.now.key in
    let was = values_of c.args.change.now.old in
    let comes = values_of c.args.change.now.new in
    let i = c.loop-i.i in
    let component = c.index-components-i.result in
    elim c.if-is_measure.branch [
      | then-is_measure+in_ok-note_measure w ↦
          let role : has_role Measure component ≡ true = sym c.is_measure.ensures ∙ w.if-is_measure.true in
          let at : IsMeasureAt frame i component = record { there = slice_get-get_or components i component c.loop-i-test.true ∙ ap Some (sym c.index-components-i.is); measure = role; names_differ = c.requires.names } in
          c.loop-i.invariant
          ∙ left-noted frame key was comes components i component c.loop-i.draft c.loop-i-test.true c.index-components-i.is role
          ∙ ap (left frame key was comes (drop (i + 1) components)) (sym (w.draft-is ∙ w.in_ok-note_measure.ensures frame at c.requires.picks))
      | else-is_measure w ↦
          let role : has_role Measure component ≡ false = sym c.is_measure.ensures ∙ w.if-is_measure.false in
          c.loop-i.invariant
          ∙ left-passed frame key was comes components i component c.loop-i.draft c.loop-i-test.true c.index-components-i.is role
          ∙ ap (left frame key was comes (drop (i + 1) components)) (sym w.draft-is)
    ]
