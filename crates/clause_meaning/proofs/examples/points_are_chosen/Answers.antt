use Rattle.clause_meaning.proofs.Worked.{filter-people, sub-people}
use Rattle.clause_meaning.proofs.examples.points_are_chosen.Goals as goal

pub returns-clause-filter : goal.returns-clause-filter
returns-clause-filter c = filter-people

pub returns-clause-sub : goal.returns-clause-sub
returns-clause-sub c = sub-people
