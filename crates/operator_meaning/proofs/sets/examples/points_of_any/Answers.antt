use Rattle.operator_meaning.proofs.sets.Worked.{union-both}
use Rattle.operator_meaning.proofs.sets.examples.points_of_any.Goals as goal

pub returns : goal.returns
returns c = union-both
