use Rattle.operator_meaning.proofs.aggregates.Fits.{aggregate-fits}
use Rattle.operator_meaning.proofs.aggregates.laws.results_fit.Goals as goal

pub returns : goal.returns
returns c = aggregate-fits
