use Rattle.clause_meaning.proofs.Worked.{measures-people}
use Rattle.clause_meaning.proofs.examples.measures_are_worked_out.Goals as goal

pub returns : goal.returns
returns c = measures-people
