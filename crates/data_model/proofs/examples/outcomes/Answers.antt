use Rattle.data_model.proofs.ExampleLemmas.{outcome-range, outcome-made}
use Rattle.data_model.proofs.examples.outcomes.Goals as goal

pub returns-clause-range : goal.returns-clause-range
returns-clause-range c = outcome-range

pub returns-clause-made : goal.returns-clause-made
returns-clause-made c = outcome-made
