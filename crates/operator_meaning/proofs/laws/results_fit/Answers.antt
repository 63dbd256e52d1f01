use Rattle.operator_meaning.proofs.FitLemmas.{meaning_of-fits, result_of-fits, states-fit}
use Rattle.operator_meaning.proofs.laws.results_fit.Goals as goal

pub returns-clause-operator : goal.returns-clause-operator
returns-clause-operator c = meaning_of-fits

pub returns-clause-expression : goal.returns-clause-expression
returns-clause-expression c = λ structures sets e t v fit. result_of-fits structures sets fit e t v

pub returns-clause-statement : goal.returns-clause-statement
returns-clause-statement c = λ s xs i v statement checked inputs. states-fit s xs checked inputs i v statement
