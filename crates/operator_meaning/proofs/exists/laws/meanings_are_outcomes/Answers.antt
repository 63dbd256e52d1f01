use Rattle.operator_meaning.proofs.exists.Told.{exists-meant}
use Rattle.operator_meaning.proofs.exists.laws.meanings_are_outcomes.Goals as goal

pub returns : goal.returns
returns c = exists-meant
