use Rattle.revision_judge.proofs.RefusedParts.{one-of-the-parts}
use Rattle.revision_judge.proofs.laws.refused_revision_tells_its_part.Goals as goal

pub returns : goal.returns
returns c = one-of-the-parts
