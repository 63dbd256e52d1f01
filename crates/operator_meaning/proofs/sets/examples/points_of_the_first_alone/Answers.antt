use Rattle.operator_meaning.proofs.sets.Worked.{setdiff-both}
use Rattle.operator_meaning.proofs.sets.examples.points_of_the_first_alone.Goals as goal

pub returns : goal.returns
returns c = setdiff-both
