use Rattle.scalar_trees.proofs.typing.Erasing.{erasing}
use Rattle.scalar_trees.proofs.typing.laws.checked_as_written.Goals as goal

pub returns : goal.returns
returns c = erasing
