use Rattle.vtl_decimals.proofs.SchoolLaws.{floor_of-near, ceiling_of-near}
use Rattle.vtl_decimals.proofs.laws.whole_numbers.Goals as goal

pub returns-clause-floor : goal.returns-clause-floor
returns-clause-floor c = floor_of-near

pub returns-clause-ceiling : goal.returns-clause-ceiling
returns-clause-ceiling c = ceiling_of-near
