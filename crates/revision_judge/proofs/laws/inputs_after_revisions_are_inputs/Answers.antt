use Rattle.revision_judge.proofs.Judgements.{then-fit, inputs_after-fit}
use Rattle.revision_judge.proofs.laws.inputs_after_revisions_are_inputs.Goals as goal

pub returns-clause-one_more : goal.returns-clause-one_more
returns-clause-one_more c = then-fit

pub returns-clause-all : goal.returns-clause-all
returns-clause-all c = inputs_after-fit
