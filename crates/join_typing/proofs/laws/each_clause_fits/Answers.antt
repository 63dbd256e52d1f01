use Rattle.join_typing.proofs.Fitting.{keeps_fitting}
use Rattle.join_typing.proofs.laws.each_clause_fits.Goals as goal

pub returns : goal.returns
returns c = keeps_fitting
