use Rattle.round_journal.proofs.ReleaseLemmas.{IsRelease-made, latest-stays, IsReleaseOf-stays, released-journal}
use Rattle.round_journal.proofs.laws.releases_stay.Goals as goal

pub returns-clause-made : goal.returns-clause-made
returns-clause-made c = λ s n r number prefix script pages. IsRelease-made s n r number prefix script pages

pub returns-clause-names : goal.returns-clause-names
returns-clause-names c = latest-stays

pub returns-clause-stays : goal.returns-clause-stays
returns-clause-stays c = IsReleaseOf-stays

pub returns-clause-for_good : goal.returns-clause-for_good
returns-clause-for_good c = released-journal
