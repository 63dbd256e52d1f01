use Rattle.round_journal.proofs.ReadyLemmas.{Ready-judged, Over-judged, Ready-rescripted, Over-rescripted}
use Rattle.round_journal.proofs.laws.some_entries_leave_the_round.Goals as goal

pub returns-clause-ready : goal.returns-clause-ready
returns-clause-ready c = λ s n i r v p. Ready-judged s n r v p i

pub returns-clause-over : goal.returns-clause-over
returns-clause-over c = λ s n r v p. Over-judged s n r v p

pub returns-clause-ready_replaced : goal.returns-clause-ready_replaced
returns-clause-ready_replaced c = λ s n i script. Ready-rescripted s n script i

pub returns-clause-over_replaced : goal.returns-clause-over_replaced
returns-clause-over_replaced c = Over-rescripted
