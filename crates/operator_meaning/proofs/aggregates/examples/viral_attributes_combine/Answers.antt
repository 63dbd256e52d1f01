use Rattle.operator_meaning.proofs.aggregates.Worked.{sum-marked}
use Rattle.operator_meaning.proofs.aggregates.examples.viral_attributes_combine.Goals as goal

pub returns : goal.returns
returns c = sum-marked
