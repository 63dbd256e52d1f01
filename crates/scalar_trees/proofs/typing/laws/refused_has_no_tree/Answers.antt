use Rattle.scalar_trees.proofs.typing.CompleteNames.{completes}
use Rattle.scalar_trees.proofs.typing.laws.refused_has_no_tree.Goals as goal

pub returns : goal.returns
returns c = λ scope basis e refusal h t kind typed same. completes scope basis e t kind typed same refusal h
