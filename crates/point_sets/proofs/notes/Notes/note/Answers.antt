use Rattle.std.proofs.Common.{◌≡◌, false, sym, ◌∙◌, ap, refl, subst}
use Rattle.std.specs.Option.{option_eq}
use Rattle.point_sets.specs.Changes.{values_eq, values_of}
use Rattle.point_sets.specs.Noted.{of_noted, AreNoted}
use Rattle.point_sets.proofs.NotedLemmas.{AreNoted-more, of_noted-more, always_on_err}
use Rattle.point_sets.proofs.notes.Notes.note.Goals as goal

pub invariant_of-self : goal.invariant_of-self
invariant_of-self c = subst AreNoted (sym c.in_err-insert.ensures.err) c.self.invariant

pub invariant_of-self-2 : goal.invariant_of-self-2
invariant_of-self-2 c = subst AreNoted (sym c.in_ok-insert.ensures.entries) (AreNoted-more c.self.inside.changes.entries c.args.change.key _ c.requires.old c.requires.new (sym c.have_same_values.ensures ∙ c.if-have_same_values.false) c.self.invariant)

pub returns-then-have_same_values-clause-ok : goal.returns-then-have_same_values-clause-ok
returns-then-have_same_values-clause-ok c = rw (sym c.have_same_values.ensures ∙ c.if-have_same_values.true) refl

pub returns-in_err-insert-clause-err : goal.returns-in_err-insert-clause-err
returns-in_err-insert-clause-err c = always_on_err c.from_residual.result (ap of_noted c.in_err-insert.ensures.err ∙ c.self.view_is)

pub returns-clause-ok : goal.returns-clause-ok
returns-clause-ok c =
    let apart : option_eq values_eq (values_of c.args.change.old) (values_of c.args.change.new) ≡ false = sym c.have_same_values.ensures ∙ c.if-have_same_values.false in
    rw (apart, ← c.self.view_is) (ap of_noted c.in_ok-insert.ensures.entries ∙ of_noted-more c.self.inside.changes.entries c.args.change.key _)
