use Rattle.round_journal.proofs.StandLemmas.{WorkStands-journal, DoneStands-journal, IsOutBy-journal}
use Rattle.round_journal.proofs.laws.stands_on.Goals as goal

pub returns-clause-work : goal.returns-clause-work
returns-clause-work c = WorkStands-journal

pub returns-clause-done : goal.returns-clause-done
returns-clause-done c = DoneStands-journal

pub returns-clause-out : goal.returns-clause-out
returns-clause-out c = IsOutBy-journal
