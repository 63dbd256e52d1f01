use Rattle.std.proofs.Common.{Some, cond, sym, ◌∙◌, ap, refl}
use Rattle.held_index.proofs.Notes.{same_draft}
use Rattle.held_index.proofs.draft.Draft.note_beyond.Goals as goal

pub returns-then-not-is_least-clause-ok : goal.returns-then-not-is_least-clause-ok
returns-then-not-is_least-clause-ok c = rw (← c.self.view_is) (same_draft _ _ _ _ refl (sym (c.is_least.ensures ∙ ap (λ t. cond t (Some c.args.key.now) c.self.inside.beyond) c.if-not-is_least.true)))

pub returns-clause-ok : goal.returns-clause-ok
returns-clause-ok c = rw (← c.self.view_is) (same_draft _ _ _ _ refl (ap Some c.in_ok-copy.ensures ∙ sym (c.is_least.ensures ∙ ap (λ t. cond t (Some c.args.key.now) c.self.inside.beyond) c.if-not-is_least.false)))
