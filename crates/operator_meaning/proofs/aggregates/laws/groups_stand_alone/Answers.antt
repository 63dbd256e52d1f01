use Rattle.operator_meaning.proofs.aggregates.Covered.{same-value, same-beyond}
use Rattle.operator_meaning.proofs.aggregates.laws.groups_stand_alone.Goals as goal

pub returns-clause-value : goal.returns-clause-value
returns-clause-value c = same-value

pub returns-clause-beyond : goal.returns-clause-beyond
returns-clause-beyond c = same-beyond
