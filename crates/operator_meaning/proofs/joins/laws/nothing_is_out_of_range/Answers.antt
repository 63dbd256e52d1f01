use Rattle.operator_meaning.proofs.joins.Covered.{join-in_range}
use Rattle.operator_meaning.proofs.joins.laws.nothing_is_out_of_range.Goals as goal

pub returns : goal.returns
returns c = join-in_range
