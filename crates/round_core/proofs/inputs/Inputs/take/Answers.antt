use Rattle.round_core.proofs.inputs.Inputs.take.Goals as goal

pub returns-clause-kept : goal.returns-clause-kept
returns-clause-kept c = λ bases tos nows afters kept shares long. c.put.ensures bases tos nows afters kept (c.in_ok-nexts.ensures.values bases tos nows afters kept shares) long
