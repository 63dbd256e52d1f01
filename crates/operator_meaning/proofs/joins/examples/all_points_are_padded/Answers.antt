use Rattle.operator_meaning.proofs.joins.Worked.{padded-is}
use Rattle.operator_meaning.proofs.joins.examples.all_points_are_padded.Goals as goal

pub returns : goal.returns
returns c = padded-is
