use Rattle.round_journal.proofs.EndLemmas.{ends_dropped, ends_published, ends_failed}
use Rattle.round_journal.proofs.laws.rounds_end_as_their_script_means.Goals as goal

pub returns-clause-dropped : goal.returns-clause-dropped
returns-clause-dropped c = ends_dropped

pub returns-clause-published : goal.returns-clause-published
returns-clause-published c = ends_published

pub returns-clause-failed : goal.returns-clause-failed
returns-clause-failed c = ends_failed
