use Rattle.clause_meaning.proofs.Fits.{filter-fits, keep-fits, drop-fits, rename-fits, sub-fits}
use Rattle.clause_meaning.proofs.MadeFits.{calc-fits, unpivot-fits, measures-fit}
use Rattle.clause_meaning.proofs.laws.results_fit.Goals as goal

pub returns-clause-filter : goal.returns-clause-filter
returns-clause-filter c = filter-fits

pub returns-clause-keep : goal.returns-clause-keep
returns-clause-keep c = keep-fits

pub returns-clause-drop : goal.returns-clause-drop
returns-clause-drop c = drop-fits

pub returns-clause-rename : goal.returns-clause-rename
returns-clause-rename c = rename-fits

pub returns-clause-sub : goal.returns-clause-sub
returns-clause-sub c = λ items frame a y first are. sub-fits frame items first are a y

pub returns-clause-calc : goal.returns-clause-calc
returns-clause-calc c = calc-fits

pub returns-clause-unpivot : goal.returns-clause-unpivot
returns-clause-unpivot c = λ identifier measure frame a y first alike. unpivot-fits identifier measure frame first alike a y

pub returns-clause-measures : goal.returns-clause-measures
returns-clause-measures c = measures-fit
