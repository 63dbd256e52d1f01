-- What is written of words that name no command that is built.
use Rattle.commands.proofs.StageLemmas.{did_refused}
use Rattle.commands.proofs.call.run_vtlprod.Goals as goal

pub returns-in-Err-clause-words : goal.returns-in-Err-clause-words
returns-in-Err-clause-words g c = λ end is. did_refused _ _ c.gathered.result c.in-Err.stop c.ended.result.status end c.in-Err.is (c.gathered.ensures.words end is) c.ended.ensures.did
