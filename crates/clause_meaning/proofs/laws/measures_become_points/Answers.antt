use Rattle.clause_meaning.proofs.Kept.{unpivot-is}
use Rattle.clause_meaning.proofs.laws.measures_become_points.Goals as goal

pub returns : goal.returns
returns c = λ identifier measure frame a y. unpivot-is frame a y identifier measure
