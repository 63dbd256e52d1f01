use Rattle.operator_meaning.proofs.pairs.Fits.{pair-fits}
use Rattle.operator_meaning.proofs.pairs.laws.results_fit.Goals as goal

pub returns : goal.returns
returns c = pair-fits
