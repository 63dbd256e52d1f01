use Rattle.operator_meaning.proofs.choices.Worked.{known-is}
use Rattle.operator_meaning.proofs.choices.examples.points_are_chosen.Goals as goal

pub returns : goal.returns
returns c = known-is
