use Rattle.operator_meaning.proofs.exists.Agreed.{met-by, met-apart}
use Rattle.operator_meaning.proofs.exists.laws.points_are_met.Goals as goal

pub returns-clause-met : goal.returns-clause-met
returns-clause-met c = met-by

pub returns-clause-apart : goal.returns-clause-apart
returns-clause-apart c = met-apart
