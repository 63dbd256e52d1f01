use Rattle.operator_meaning.proofs.joins.Covered.{join-empty}
use Rattle.operator_meaning.proofs.joins.laws.nothing_comes_of_nothing.Goals as goal

pub returns : goal.returns
returns c = join-empty
