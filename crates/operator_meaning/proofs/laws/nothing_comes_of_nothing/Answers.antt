use Rattle.operator_meaning.proofs.EmptyLemmas.{meaning_of-empty, states-empty, script_wrong-empty}
use Rattle.operator_meaning.proofs.laws.nothing_comes_of_nothing.Goals as goal

pub returns-clause-operator : goal.returns-clause-operator
returns-clause-operator c = meaning_of-empty

pub returns-clause-statement : goal.returns-clause-statement
returns-clause-statement c = λ s i checked. states-empty s checked i

pub returns-clause-script : goal.returns-clause-script
returns-clause-script c = script_wrong-empty
