use Rattle.operator_meaning.proofs.sets.Words.{intersect-all, intersect-not-all}
use Rattle.operator_meaning.proofs.sets.laws.intersect_has_the_points_of_all.Goals as goal

pub returns-clause-all : goal.returns-clause-all
returns-clause-all c = intersect-all

pub returns-clause-not_all : goal.returns-clause-not_all
returns-clause-not_all c = intersect-not-all
