use Rattle.operator_meaning.proofs.pairs.Paired.{pair-meant}
use Rattle.operator_meaning.proofs.pairs.laws.meanings_are_outcomes.Goals as goal

pub returns : goal.returns
returns c = pair-meant
