use Rattle.operator_meaning.proofs.joins.Worked.{full-is}
use Rattle.operator_meaning.proofs.joins.examples.points_of_any.Goals as goal

pub returns : goal.returns
returns c = full-is
