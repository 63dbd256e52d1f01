use Rattle.operator_meaning.proofs.pairs.Worked.{worth-is}
use Rattle.operator_meaning.proofs.pairs.examples.the_second_is_the_main_one.Goals as goal

pub returns : goal.returns
returns c = worth-is
