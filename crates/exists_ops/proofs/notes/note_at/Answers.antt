use Rattle.std.proofs.Common.{List, sym, subst}
use Rattle.vtl_values.specs.declared.value.Value.{Value}
use Rattle.point_sets.specs.DataSets.{HasKey}
use Rattle.exists_ops.proofs.notes.note_at.Goals as goal

pub note-requires-clause-old : goal.note-requires-clause-old
note-requires-clause-old c = subst (λ (k : List Value). HasKey k c.in_ok-old.old) (sym c.in_ok-key.ensures) (c.in_ok-old.ensures.key c.args.key.now c.requires.old)

pub note-requires-clause-new : goal.note-requires-clause-new
note-requires-clause-new c = subst (λ (k : List Value). HasKey k c.in_ok-new.new) (sym c.in_ok-key.ensures) (c.in_ok-new.ensures.key c.args.key.now c.requires.new)
