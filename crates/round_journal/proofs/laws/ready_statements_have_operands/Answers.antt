use Rattle.round_journal.proofs.ReadyLemmas.{AllHave-ready, some_ready}
use Rattle.round_journal.proofs.laws.ready_statements_have_operands.Goals as goal

pub returns-clause-have : goal.returns-clause-have
returns-clause-have c = AllHave-ready

pub returns-clause-begins : goal.returns-clause-begins
returns-clause-begins c = some_ready
