use Rattle.round_journal.proofs.CountLemmas.{IsUnspoiled-legal}
use Rattle.round_journal.proofs.laws.unspoiled_rounds_gave_nothing_up.Goals as goal

pub returns : goal.returns
returns c = IsUnspoiled-legal
