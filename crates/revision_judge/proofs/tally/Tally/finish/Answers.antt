use Rattle.revision_judge.proofs.TallyLemmas.{noted-leads}
use Rattle.revision_judge.proofs.tally.Tally.finish.Goals as goal

pub returns : goal.returns
returns c = noted-leads c.args.self c.finish.result c.finish.ensures
