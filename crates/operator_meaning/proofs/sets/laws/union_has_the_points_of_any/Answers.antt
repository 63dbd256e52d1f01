use Rattle.operator_meaning.proofs.sets.Words.{union-is}
use Rattle.operator_meaning.proofs.sets.laws.union_has_the_points_of_any.Goals as goal

pub returns : goal.returns
returns c = union-is
