use Rattle.data_model.proofs.ExampleLemmas.{Leads-changes, gained-changes, lost-changes, composed-changes}
use Rattle.data_model.proofs.examples.deltas.Goals as goal

pub returns-clause-leads : goal.returns-clause-leads
returns-clause-leads c = Leads-changes

pub returns-clause-gained : goal.returns-clause-gained
returns-clause-gained c = gained-changes

pub returns-clause-lost : goal.returns-clause-lost
returns-clause-lost c = lost-changes

pub returns-clause-composed : goal.returns-clause-composed
returns-clause-composed c = composed-changes
