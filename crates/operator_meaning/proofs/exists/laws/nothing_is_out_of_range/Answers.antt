use Rattle.operator_meaning.proofs.exists.Told.{in_range}
use Rattle.operator_meaning.proofs.exists.laws.nothing_is_out_of_range.Goals as goal

pub returns : goal.returns
returns c = in_range
