use Rattle.operator_meaning.proofs.aggregates.Worked.{several-counted}
use Rattle.operator_meaning.proofs.aggregates.examples.groups_are_chosen.Goals as goal

pub returns : goal.returns
returns c = several-counted
