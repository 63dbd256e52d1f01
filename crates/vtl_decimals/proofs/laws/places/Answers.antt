use Rattle.vtl_decimals.proofs.SchoolLaws.{rounding_of-near, truncation_of-near, truncation_of-not_further}
use Rattle.vtl_decimals.proofs.laws.places.Goals as goal

pub returns-clause-rounded : goal.returns-clause-rounded
returns-clause-rounded c = rounding_of-near

pub returns-clause-cut : goal.returns-clause-cut
returns-clause-cut c = truncation_of-near

pub returns-clause-not_further : goal.returns-clause-not_further
returns-clause-not_further c = truncation_of-not_further
