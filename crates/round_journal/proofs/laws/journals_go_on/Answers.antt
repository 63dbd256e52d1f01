use Rattle.round_journal.specs.Journals.{start}
use Rattle.round_journal.proofs.JournalLemmas.{after_all-append, LegalFrom-append, LegalFrom-parts, state_of-more}
use Rattle.round_journal.proofs.laws.journals_go_on.Goals as goal

pub returns-clause-says : goal.returns-clause-says
returns-clause-says c = λ first. after_all-append (start first)

pub returns-clause-one_more : goal.returns-clause-one_more
returns-clause-one_more c = state_of-more

pub returns-clause-goes_on : goal.returns-clause-goes_on
returns-clause-goes_on c = λ first. LegalFrom-append (start first)

pub returns-clause-parts : goal.returns-clause-parts
returns-clause-parts c = λ first. LegalFrom-parts (start first)
