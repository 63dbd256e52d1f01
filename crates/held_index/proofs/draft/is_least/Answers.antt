use Rattle.std.proofs.Common.{◌∙◌, ap}
use Rattle.std.specs.Ordering.{is_lt}
use Rattle.held_index.proofs.Notes.{lesser-tested}
use Rattle.held_index.proofs.draft.is_least.Goals as goal

pub returns-in-Some : goal.returns-in-Some
returns-in-Some c = lesser-tested c.args.key.now c.in-Some.other c.args.other.now c.is_lt.result c.in-Some.is (c.is_lt.ensures ∙ ap is_lt c.cmp.ensures)
