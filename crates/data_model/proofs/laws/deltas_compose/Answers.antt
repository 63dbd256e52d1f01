use Rattle.data_model.proofs.DeltaLemmas.{Leads-composed, composed-comes_back}
use Rattle.data_model.proofs.laws.deltas_compose.Goals as goal

pub returns-clause-leads : goal.returns-clause-leads
returns-clause-leads g c = λ same d e l m n test. Leads-composed g.met.K.Ord.total c.requires.exact same test d e l m n

pub returns-clause-comes_back : goal.returns-clause-comes_back
returns-clause-comes_back g c = λ same d e l m n k test first second. composed-comes_back g.met.K.Ord.total c.requires.exact same test d e l m n first second k
