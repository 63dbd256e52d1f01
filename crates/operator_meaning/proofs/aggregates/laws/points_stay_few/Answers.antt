use Rattle.operator_meaning.proofs.aggregates.Covered.{no-more, not-too-many}
use Rattle.operator_meaning.proofs.aggregates.laws.points_stay_few.Goals as goal

pub returns-clause-no_more : goal.returns-clause-no_more
returns-clause-no_more c = no-more

pub returns-clause-not_too_many : goal.returns-clause-not_too_many
returns-clause-not_too_many c = not-too-many
