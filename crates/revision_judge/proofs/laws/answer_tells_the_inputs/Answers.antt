use Rattle.revision_judge.proofs.ShareLemmas.{told-below, told-fit, told-refused}
use Rattle.revision_judge.proofs.laws.answer_tells_the_inputs.Goals as goal

pub returns-clause-below : goal.returns-clause-below
returns-clause-below c = told-below

pub returns-clause-fit : goal.returns-clause-fit
returns-clause-fit c = told-fit

pub returns-clause-refused : goal.returns-clause-refused
returns-clause-refused c = told-refused
