use Rattle.operator_meaning.proofs.exists.Told.{no_more, not_too_many}
use Rattle.operator_meaning.proofs.exists.laws.points_stay_few.Goals as goal

pub returns-clause-no_more : goal.returns-clause-no_more
returns-clause-no_more c = no_more

pub returns-clause-not_too_many : goal.returns-clause-not_too_many
returns-clause-not_too_many c = not_too_many
