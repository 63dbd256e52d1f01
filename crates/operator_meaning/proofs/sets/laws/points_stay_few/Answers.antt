use Rattle.operator_meaning.proofs.sets.Covered.{no-more, not-too-many}
use Rattle.operator_meaning.proofs.sets.laws.points_stay_few.Goals as goal

pub returns-clause-no_more : goal.returns-clause-no_more
returns-clause-no_more c = λ s a sets y which. no-more s a sets which y

pub returns-clause-not_too_many : goal.returns-clause-not_too_many
returns-clause-not_too_many c = λ s a sets which. not-too-many s a sets which
