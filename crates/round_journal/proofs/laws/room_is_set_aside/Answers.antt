use Rattle.round_journal.specs.Journals.{state_of}
use Rattle.round_journal.proofs.CountLemmas.{IsSpent-legal, aside-whole, aside-end, aside-out, aside-ready, aside-less}
use Rattle.round_journal.proofs.laws.room_is_set_aside.Goals as goal

pub returns-clause-spent : goal.returns-clause-spent
returns-clause-spent c = IsSpent-legal

pub returns-clause-whole : goal.returns-clause-whole
returns-clause-whole c = λ s j legal run. aside-whole (state_of s j) run (IsSpent-legal s j legal)

pub returns-clause-end : goal.returns-clause-end
returns-clause-end c = λ s j legal run. aside-end (state_of s j) run (IsSpent-legal s j legal)

pub returns-clause-out : goal.returns-clause-out
returns-clause-out c = λ s j n i legal out. aside-out (state_of s j) n i out (IsSpent-legal s j legal)

pub returns-clause-ready : goal.returns-clause-ready
returns-clause-ready c = λ s j i legal run ready. aside-ready (state_of s j) i run ready (IsSpent-legal s j legal)

pub returns-clause-one_less : goal.returns-clause-one_less
returns-clause-one_less c = aside-less
