use Rattle.operator_meaning.proofs.joins.Worked.{cross-is}
use Rattle.operator_meaning.proofs.joins.examples.all_combinations.Goals as goal

pub returns : goal.returns
returns c = cross-is
