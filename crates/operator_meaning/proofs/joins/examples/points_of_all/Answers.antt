use Rattle.operator_meaning.proofs.joins.Worked.{inner-is}
use Rattle.operator_meaning.proofs.joins.examples.points_of_all.Goals as goal

pub returns : goal.returns
returns c = inner-is
