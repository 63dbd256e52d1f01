use Rattle.scalar_trees.proofs.typing.OneKind.{one-kind}
use Rattle.scalar_trees.proofs.typing.laws.tree_has_one_kind.Goals as goal

pub returns : goal.returns
returns c = one-kind
