use Rattle.revision_judge.proofs.Judgements.{accepted-keeps, accepted-others}
use Rattle.revision_judge.proofs.laws.accepted_revision_leaves_inputs.Goals as goal

pub returns-clause-inputs : goal.returns-clause-inputs
returns-clause-inputs c = accepted-keeps

pub returns-clause-others : goal.returns-clause-others
returns-clause-others c = accepted-others
