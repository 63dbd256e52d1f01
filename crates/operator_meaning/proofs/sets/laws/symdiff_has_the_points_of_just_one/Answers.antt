use Rattle.operator_meaning.proofs.sets.Words.{symdiff-one, symdiff-not-one}
use Rattle.operator_meaning.proofs.sets.laws.symdiff_has_the_points_of_just_one.Goals as goal

pub returns-clause-one : goal.returns-clause-one
returns-clause-one c = symdiff-one

pub returns-clause-not_one : goal.returns-clause-not_one
returns-clause-not_one c = symdiff-not-one
