use Rattle.operator_meaning.proofs.sets.Covered.{set-empty}
use Rattle.operator_meaning.proofs.sets.laws.nothing_comes_of_nothing.Goals as goal

pub returns : goal.returns
returns c = set-empty
