use Rattle.data_model.proofs.DeltaLemmas.{get-apply, len-apply}
use Rattle.data_model.proofs.laws.delta_applies.Goals as goal

pub returns-clause-at_a_key : goal.returns-clause-at_a_key
returns-clause-at_a_key g c = get-apply g.met.K.Ord.total c.requires.exact

pub returns-clause-points : goal.returns-clause-points
returns-clause-points g c = len-apply g.met.K.Ord.total c.requires.exact
