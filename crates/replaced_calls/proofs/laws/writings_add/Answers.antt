use Rattle.replaced_calls.proofs.Written.{writings_sum}
use Rattle.replaced_calls.proofs.laws.writings_add.Goals as goal

pub returns : goal.returns
returns c = writings_sum
