use Rattle.exists_ops.proofs.Wanted.{left-fits, right-fits}
use Rattle.exists_ops.proofs.laws.wants_fit.Goals as goal

pub returns-clause-left : goal.returns-clause-left
returns-clause-left c = left-fits

pub returns-clause-right : goal.returns-clause-right
returns-clause-right c = right-fits
