use Rattle.data_model.proofs.DeltaLemmas.{Leads-delta_between, Leads-built}
use Rattle.data_model.proofs.laws.right_delta_exists.Goals as goal

pub returns-clause-between : goal.returns-clause-between
returns-clause-between g c = λ same m n test. Leads-delta_between g.met.K.Ord.total c.requires.exact same test m n

pub returns-clause-from_nothing : goal.returns-clause-from_nothing
returns-clause-from_nothing g c = Leads-built g.met.K.Ord.total c.requires.exact
