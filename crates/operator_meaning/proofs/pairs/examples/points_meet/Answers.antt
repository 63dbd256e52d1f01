use Rattle.operator_meaning.proofs.pairs.Worked.{together-is}
use Rattle.operator_meaning.proofs.pairs.examples.points_meet.Goals as goal

pub returns : goal.returns
returns c = together-is
