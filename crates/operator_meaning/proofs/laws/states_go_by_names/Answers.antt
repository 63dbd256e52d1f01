use Rattle.operator_meaning.proofs.ScriptLemmas.{states-fixed}
use Rattle.operator_meaning.proofs.laws.states_go_by_names.Goals as goal

pub returns : goal.returns
returns c = λ s xs i checked l. states-fixed s xs checked i l
