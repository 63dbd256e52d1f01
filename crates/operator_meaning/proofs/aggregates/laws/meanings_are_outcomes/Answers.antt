use Rattle.operator_meaning.proofs.aggregates.Covered.{meant}
use Rattle.operator_meaning.proofs.aggregates.laws.meanings_are_outcomes.Goals as goal

pub returns : goal.returns
returns c = meant
