use Rattle.clause_meaning.proofs.Worked.{calc-people, calc-range-people}
use Rattle.clause_meaning.proofs.examples.items_are_worked_out.Goals as goal

pub returns-clause-made : goal.returns-clause-made
returns-clause-made c = calc-people

pub returns-clause-range : goal.returns-clause-range
returns-clause-range c = calc-range-people
