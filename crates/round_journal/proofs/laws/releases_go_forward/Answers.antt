use Rattle.round_journal.proofs.ReleaseLemmas.{GoesForward-journal}
use Rattle.round_journal.proofs.laws.releases_go_forward.Goals as goal

pub returns : goal.returns
returns c = GoesForward-journal
