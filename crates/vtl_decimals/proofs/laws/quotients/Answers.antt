use Rattle.vtl_decimals.proofs.SchoolLaws.{rounded_quotient-nearest, rounded_quotient-only}
use Rattle.vtl_decimals.proofs.laws.quotients.Goals as goal

pub returns-clause-nearest : goal.returns-clause-nearest
returns-clause-nearest c = rounded_quotient-nearest

pub returns-clause-only : goal.returns-clause-only
returns-clause-only c = rounded_quotient-only
