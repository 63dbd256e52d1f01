use Rattle.operator_meaning.proofs.choices.Worked.{zero-is}
use Rattle.operator_meaning.proofs.choices.examples.a_scalar_stands_at_each_key.Goals as goal

pub returns : goal.returns
returns c = zero-is
