use Rattle.operator_meaning.proofs.sets.Fits.{set-fits}
use Rattle.operator_meaning.proofs.sets.laws.results_fit.Goals as goal

pub returns : goal.returns
returns c = set-fits
