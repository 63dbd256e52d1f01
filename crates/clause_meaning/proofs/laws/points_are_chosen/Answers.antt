use Rattle.clause_meaning.proofs.Kept.{filter-is, sub-is}
use Rattle.clause_meaning.proofs.laws.points_are_chosen.Goals as goal

pub returns-clause-filter : goal.returns-clause-filter
returns-clause-filter c = λ condition frame a y. filter-is frame a y condition

pub returns-clause-sub : goal.returns-clause-sub
returns-clause-sub c = λ items frame a y. sub-is frame a y items
