use Rattle.operator_meaning.proofs.sets.Covered.{in-range}
use Rattle.operator_meaning.proofs.sets.laws.nothing_is_out_of_range.Goals as goal

pub returns : goal.returns
returns c = in-range
