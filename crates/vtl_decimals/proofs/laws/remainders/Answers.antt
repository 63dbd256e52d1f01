use Rattle.vtl_decimals.proofs.SchoolLaws.{remainder_of-whole, remainder_of-positive, remainder_of-negative}
use Rattle.vtl_decimals.proofs.laws.remainders.Goals as goal

pub returns-clause-whole : goal.returns-clause-whole
returns-clause-whole c = remainder_of-whole

pub returns-clause-positive : goal.returns-clause-positive
returns-clause-positive c = remainder_of-positive

pub returns-clause-negative : goal.returns-clause-negative
returns-clause-negative c = remainder_of-negative
