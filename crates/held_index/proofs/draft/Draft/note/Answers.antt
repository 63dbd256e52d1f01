use Rattle.std.proofs.Common.{◌∙◌, ap, refl}
use Rattle.data_model.specs.Drafts.{note_value}
use Rattle.point_sets.specs.Changes.{values_eq, values_of}
use Rattle.held_index.proofs.Notes.{on_ok, on_err, same_draft, note_value-changes}
use Rattle.held_index.proofs.draft.Draft.note.Goals as goal

pub returns-clause-ok : goal.returns-clause-ok
returns-clause-ok c =
    let change = c.args.change in
    on_ok c.note.result (λ noted. same_draft _ _ _ _ noted refl ∙ note_value-changes c.self.inside.changes c.self.inside.beyond change.key (values_of change.old) (values_of change.new) ∙ ap (note_value values_eq change.key (values_of change.old) (values_of change.new)) c.self.view_is) c.note.ensures.ok

pub returns-clause-err : goal.returns-clause-err
returns-clause-err c = on_err c.note.result (λ same. same_draft _ _ _ _ same refl ∙ c.self.view_is) c.note.ensures.err
