use Rattle.operator_meaning.proofs.sets.Covered.{set-meant}
use Rattle.operator_meaning.proofs.sets.laws.meanings_are_outcomes.Goals as goal

pub returns : goal.returns
returns c = set-meant
