use Rattle.operator_meaning.proofs.sets.Worked.{symdiff-both}
use Rattle.operator_meaning.proofs.sets.examples.points_of_just_one.Goals as goal

pub returns : goal.returns
returns c = symdiff-both
