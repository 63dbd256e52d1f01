use Rattle.operator_meaning.proofs.joins.Worked.{left-is}
use Rattle.operator_meaning.proofs.joins.examples.points_of_the_first.Goals as goal

pub returns : goal.returns
returns c = left-is
