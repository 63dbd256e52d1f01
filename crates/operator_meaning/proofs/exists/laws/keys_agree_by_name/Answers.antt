use Rattle.operator_meaning.proofs.exists.Agreed.{agree-by_name}
use Rattle.operator_meaning.proofs.exists.laws.keys_agree_by_name.Goals as goal

pub returns : goal.returns
returns c = agree-by_name
