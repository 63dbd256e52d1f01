use Rattle.operator_meaning.proofs.pairs.Worked.{range-is}
use Rattle.operator_meaning.proofs.pairs.examples.a_measure_is_out_of_range.Goals as goal

pub returns : goal.returns
returns c = range-is
