use Rattle.operator_meaning.proofs.sets.Words.{setdiff-alone, setdiff-not-alone}
use Rattle.operator_meaning.proofs.sets.laws.setdiff_has_the_points_of_the_first_alone.Goals as goal

pub returns-clause-alone : goal.returns-clause-alone
returns-clause-alone c = setdiff-alone

pub returns-clause-not_alone : goal.returns-clause-not_alone
returns-clause-not_alone c = setdiff-not-alone
