use Rattle.clause_meaning.proofs.Worked.{keep-people, drop-people, rename-people}
use Rattle.clause_meaning.proofs.examples.components_are_left.Goals as goal

pub returns-clause-keep : goal.returns-clause-keep
returns-clause-keep c = keep-people

pub returns-clause-drop : goal.returns-clause-drop
returns-clause-drop c = drop-people

pub returns-clause-rename : goal.returns-clause-rename
returns-clause-rename c = rename-people
