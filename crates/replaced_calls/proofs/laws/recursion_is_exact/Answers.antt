use Rattle.replaced_calls.proofs.Faultless.{recursion_exact}
use Rattle.replaced_calls.proofs.laws.recursion_is_exact.Goals as goal

pub returns : goal.returns
returns c = recursion_exact
