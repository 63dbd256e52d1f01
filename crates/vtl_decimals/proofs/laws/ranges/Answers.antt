use Rattle.vtl_decimals.proofs.SchoolLaws.{number_of-within, number_of-beyond, number_of-made}
use Rattle.vtl_decimals.proofs.laws.ranges.Goals as goal

pub returns-clause-within : goal.returns-clause-within
returns-clause-within c = number_of-within

pub returns-clause-beyond : goal.returns-clause-beyond
returns-clause-beyond c = number_of-beyond

pub returns-clause-made : goal.returns-clause-made
returns-clause-made c = number_of-made
