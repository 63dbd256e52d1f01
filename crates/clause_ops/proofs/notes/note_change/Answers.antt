use Rattle.std.proofs.Common.{◌≡◌, sym, ap, subst, ◌∙◌}
use Rattle.std.specs.Result.{OnOk}
use Rattle.data_set_trees.specs.declared.clauses.clause.CheckedClause.{CheckedClause}
use Rattle.data_set_trees.specs.declared.clauses.clause.CheckedClause.TheVariants as clauses
use Rattle.data_set_trees.specs.clauses.Frames.{frame_of}
use Rattle.clause_eval.specs.Points.{picks_of}
use Rattle.clause_ops.specs.Noted.{noted_change}
use Rattle.clause_ops.proofs.notes.note_change.Goals as goal

pub returns-in-Sub : goal.returns-in-Sub
returns-in-Sub c =
    let frame = frame_of c.args.components.now in
    let is : clauses.Sub c.as_slice.result.now ≡ c.args.clause.now = ap clauses.Sub c.as_slice.ensures ∙ sym c.in-Sub.is in
    subst (λ (k : CheckedClause). OnOk c.note_left.result (c.note_left.new.draft ≡ noted_change k frame c.args.change.now c.args.draft.now)) is
    (c.note_left.ensures frame (c.requires.picks ∙ ap (λ (k : CheckedClause). picks_of k frame) (sym is)))
