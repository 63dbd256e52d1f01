use Rattle.operator_meaning.proofs.pairs.Paired.{left-empty, right-empty}
use Rattle.operator_meaning.proofs.pairs.laws.nothing_comes_of_nothing.Goals as goal

pub returns-clause-left : goal.returns-clause-left
returns-clause-left c = left-empty

pub returns-clause-right : goal.returns-clause-right
returns-clause-right c = right-empty
