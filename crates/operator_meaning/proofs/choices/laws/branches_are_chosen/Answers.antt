use Rattle.operator_meaning.proofs.choices.Chosen.{values-at, there-at, nothing-else}
use Rattle.operator_meaning.proofs.choices.laws.branches_are_chosen.Goals as goal

pub returns-clause-values : goal.returns-clause-values
returns-clause-values c = values-at

pub returns-clause-there : goal.returns-clause-there
returns-clause-there c = there-at

pub returns-clause-nowhere_else : goal.returns-clause-nowhere_else
returns-clause-nowhere_else c = nothing-else
