use Rattle.std.proofs.Common.{sym}
use Rattle.point_sets.specs.Changes.{values_of}
use Rattle.value_cases.proofs.Noting.{begins-noted}
use Rattle.value_cases.proofs.held.operand.note.Goals as goal

pub returns : goal.returns
returns c = begins-noted c.args.notes.now c.note.new.self c.args.set.now c.args.change.key (values_of c.args.change.old) (values_of c.args.change.new) (sym c.requires.was) c.in_ok-note.ensures.ok c.requires.begins
