use Rattle.operator_meaning.proofs.exists.Fits.{exists-fits}
use Rattle.operator_meaning.proofs.exists.laws.results_fit.Goals as goal

pub returns : goal.returns
returns c = λ e a b y typed. exists-fits e typed a b y
