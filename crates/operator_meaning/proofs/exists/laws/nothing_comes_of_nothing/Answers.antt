use Rattle.operator_meaning.proofs.exists.Told.{first-empty}
use Rattle.operator_meaning.proofs.exists.laws.nothing_comes_of_nothing.Goals as goal

pub returns : goal.returns
returns c = first-empty
