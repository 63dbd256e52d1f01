use Rattle.clause_meaning.proofs.First.{identifiers-first}
use Rattle.clause_meaning.proofs.laws.structures_have_identifiers_first.Goals as goal

pub returns : goal.returns
returns c = λ frame h. identifiers-first frame.components h
