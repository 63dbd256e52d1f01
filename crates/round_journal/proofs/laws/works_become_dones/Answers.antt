use Rattle.round_journal.proofs.StandLemmas.{DoneStands-from_work}
use Rattle.round_journal.proofs.laws.works_become_dones.Goals as goal

pub returns : goal.returns
returns c = DoneStands-from_work
