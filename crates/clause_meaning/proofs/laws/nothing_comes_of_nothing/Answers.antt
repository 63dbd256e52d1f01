use Rattle.clause_meaning.proofs.Covered.{meaning-empty}
use Rattle.clause_meaning.proofs.laws.nothing_comes_of_nothing.Goals as goal

pub returns : goal.returns
returns c = meaning-empty
