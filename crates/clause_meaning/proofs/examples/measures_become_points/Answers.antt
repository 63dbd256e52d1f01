use Rattle.clause_meaning.proofs.Worked.{unpivot-people}
use Rattle.clause_meaning.proofs.examples.measures_become_points.Goals as goal

pub returns : goal.returns
returns c = unpivot-people
