use Rattle.operator_meaning.proofs.joins.Covered.{join-meant}
use Rattle.operator_meaning.proofs.joins.laws.meanings_are_outcomes.Goals as goal

pub returns : goal.returns
returns c = join-meant
