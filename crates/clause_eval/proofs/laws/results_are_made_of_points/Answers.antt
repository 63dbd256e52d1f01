use Rattle.clause_eval.proofs.Parts.{beyond-at, keys-are, value-at}
use Rattle.clause_eval.proofs.laws.results_are_made_of_points.Goals as goal

pub returns-clause-range : goal.returns-clause-range
returns-clause-range c = beyond-at

pub returns-clause-keys : goal.returns-clause-keys
returns-clause-keys c = keys-are

pub returns-clause-values : goal.returns-clause-values
returns-clause-values c = value-at
