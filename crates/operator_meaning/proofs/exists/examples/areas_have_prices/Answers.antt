use Rattle.operator_meaning.proofs.exists.Worked.{priced-is}
use Rattle.operator_meaning.proofs.exists.examples.areas_have_prices.Goals as goal

pub returns : goal.returns
returns c = priced-is
