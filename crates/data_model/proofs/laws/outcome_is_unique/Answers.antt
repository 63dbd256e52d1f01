use Rattle.data_model.proofs.OutcomeLemmas.{outcome-is, IsOutcome-unique}
use Rattle.data_model.proofs.laws.outcome_is_unique.Goals as goal

pub returns-clause-computed : goal.returns-clause-computed
returns-clause-computed g c = outcome-is g.met.K.Ord.total c.requires.exact

pub returns-clause-unique : goal.returns-clause-unique
returns-clause-unique g c = IsOutcome-unique g.met.K.Ord.total c.requires.exact
