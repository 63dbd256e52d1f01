use Rattle.join_typing.proofs.Steps.{joins_by_steps}
use Rattle.join_typing.proofs.laws.steps_are_the_join.Goals as goal

pub returns : goal.returns
returns c = joins_by_steps
