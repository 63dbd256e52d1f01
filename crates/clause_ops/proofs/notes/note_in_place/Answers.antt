-- What is made of a change's point has the change's key.
use Rattle.std.proofs.Common.{sym, subst}
use Rattle.point_sets.specs.DataSets.{HasKey}
use Rattle.clause_ops.proofs.notes.note_in_place.Goals as goal

pub note-requires-clause-old : goal.note-requires-clause-old
note-requires-clause-old c = c.in_ok-old.ensures.key c.args.change.now.key (subst (HasKey c.args.change.now.key) (sym c.as_ref.ensures.value) c.requires.change.old)

pub note-requires-clause-new : goal.note-requires-clause-new
note-requires-clause-new c = c.in_ok-new.ensures.key c.args.change.now.key (subst (HasKey c.args.change.now.key) (sym c.as_ref-2.ensures.value) c.requires.change.new)
