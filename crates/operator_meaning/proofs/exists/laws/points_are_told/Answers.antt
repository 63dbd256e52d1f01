use Rattle.operator_meaning.proofs.exists.Told.{told-all, told-met, told-unmet}
use Rattle.operator_meaning.proofs.exists.laws.points_are_told.Goals as goal

pub returns-clause-all : goal.returns-clause-all
returns-clause-all c = told-all

pub returns-clause-met : goal.returns-clause-met
returns-clause-met c = told-met

pub returns-clause-unmet : goal.returns-clause-unmet
returns-clause-unmet c = told-unmet
