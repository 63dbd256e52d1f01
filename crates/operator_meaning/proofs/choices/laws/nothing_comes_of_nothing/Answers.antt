use Rattle.operator_meaning.proofs.choices.Chosen.{nothing-chosen}
use Rattle.operator_meaning.proofs.choices.laws.nothing_comes_of_nothing.Goals as goal

pub returns : goal.returns
returns c = nothing-chosen
