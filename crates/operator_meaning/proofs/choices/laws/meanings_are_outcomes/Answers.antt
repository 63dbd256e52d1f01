use Rattle.operator_meaning.proofs.choices.Chosen.{choice-meant}
use Rattle.operator_meaning.proofs.choices.laws.meanings_are_outcomes.Goals as goal

pub returns : goal.returns
returns c = choice-meant
