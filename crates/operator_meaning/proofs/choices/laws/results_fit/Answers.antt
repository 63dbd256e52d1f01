use Rattle.operator_meaning.proofs.choices.Fits.{choice-fits}
use Rattle.operator_meaning.proofs.choices.laws.results_fit.Goals as goal

pub returns : goal.returns
returns c = λ on sets y typed fit e. choice-fits on sets typed fit y e
