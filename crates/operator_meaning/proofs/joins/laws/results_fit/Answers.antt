use Rattle.operator_meaning.proofs.joins.Fits.{join-fits}
use Rattle.operator_meaning.proofs.joins.laws.results_fit.Goals as goal

pub returns : goal.returns
returns c = λ j sets y typed fit. join-fits j typed sets fit y
