use Rattle.scalar_meaning.proofs.Kept.{points-are-rows}
use Rattle.scalar_meaning.proofs.laws.points_are_rows.Goals as goal

pub returns : goal.returns
returns c = points-are-rows
