use Rattle.scalar_meaning.proofs.Kept.{kinds-kept}
use Rattle.scalar_meaning.proofs.laws.kinds_are_kept.Goals as goal

pub returns : goal.returns
returns c = kinds-kept
