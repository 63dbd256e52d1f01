use Rattle.operator_meaning.proofs.choices.Worked.{range-is}
use Rattle.operator_meaning.proofs.choices.examples.a_branch_is_out_of_range.Goals as goal

pub returns : goal.returns
returns c = range-is
