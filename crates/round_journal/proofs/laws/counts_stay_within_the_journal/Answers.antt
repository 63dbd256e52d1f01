use Rattle.round_journal.proofs.CountLemmas.{CountsWithin-journal, RoundsInOrder-legal}
use Rattle.round_journal.proofs.laws.counts_stay_within_the_journal.Goals as goal

pub returns-clause-counts : goal.returns-clause-counts
returns-clause-counts c = CountsWithin-journal

pub returns-clause-rounds : goal.returns-clause-rounds
returns-clause-rounds c = RoundsInOrder-legal
