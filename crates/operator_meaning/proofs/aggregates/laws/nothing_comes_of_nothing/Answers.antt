use Rattle.operator_meaning.proofs.aggregates.Covered.{meaning-empty}
use Rattle.operator_meaning.proofs.aggregates.laws.nothing_comes_of_nothing.Goals as goal

pub returns : goal.returns
returns c = meaning-empty
