use Rattle.operator_meaning.proofs.exists.Worked.{unsold-is}
use Rattle.operator_meaning.proofs.exists.examples.nothing_was_sold.Goals as goal

pub returns : goal.returns
returns c = unsold-is
