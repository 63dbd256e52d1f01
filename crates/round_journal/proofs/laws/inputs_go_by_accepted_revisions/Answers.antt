use Rattle.round_journal.proofs.InputLemmas.{inputs-after_what, inputs-append, inputs-all, inputs_now-judged}
use Rattle.round_journal.proofs.laws.inputs_go_by_accepted_revisions.Goals as goal

pub returns-clause-one_more : goal.returns-clause-one_more
returns-clause-one_more c = inputs-after_what

pub returns-clause-stay : goal.returns-clause-stay
returns-clause-stay c = inputs-append

pub returns-clause-all : goal.returns-clause-all
returns-clause-all c = inputs-all

pub returns-clause-judged : goal.returns-clause-judged
returns-clause-judged c = inputs_now-judged
