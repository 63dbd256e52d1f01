use Rattle.std.proofs.Common.{◌∙◌, ap, refl, not, ◌-◌}
use Rattle.revision_judge.proofs.Grants.{counted, remove-granted}
use Rattle.revision_judge.proofs.tally.Tally.remove.Goals as goal

pub overflow_sub-self : goal.overflow_sub-self
overflow_sub-self c =
    let added = c.in_ok-see.ensures.ok in
    counted c.args.set.now c.args.self.now c.requires.0 c.requires.1 c.args.key c.in_ok-old.old added.absent c.in_ok-old.ensures.value (c.is_none.ensures ∙ ap not c.if-is_none.false)

pub returns : goal.returns
returns c = λ p h.
    let added = c.in_ok-see.ensures.ok in
    remove-granted c.args.set.now c.args.self.now p h c.args.key c.in_ok-old.old added.absent c.in_ok-old.ensures.value
    (record { keys = c.see.new.keys; points = c.args.self.now.points - 1; notes = c.note.new.self }) added.added (c.is_none.ensures ∙ ap not c.if-is_none.false) refl c.in_ok-note.ensures.ok
