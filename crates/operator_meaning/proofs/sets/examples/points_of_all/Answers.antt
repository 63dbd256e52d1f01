use Rattle.operator_meaning.proofs.sets.Worked.{intersect-both}
use Rattle.operator_meaning.proofs.sets.examples.points_of_all.Goals as goal

pub returns : goal.returns
returns c = intersect-both
