use Rattle.operator_meaning.proofs.aggregates.Worked.{sum-great}
use Rattle.operator_meaning.proofs.aggregates.examples.sums_are_tested_once.Goals as goal

pub returns : goal.returns
returns c = sum-great
