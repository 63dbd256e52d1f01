use Rattle.clause_meaning.proofs.SubKeys.{sub-keys}
use Rattle.clause_meaning.proofs.laws.sub_keys_differ.Goals as goal

pub returns : goal.returns
returns c = sub-keys
