use Rattle.operator_meaning.proofs.pairs.Fits.{keys-are, pairs-are}
use Rattle.operator_meaning.proofs.pairs.laws.points_are_pairs.Goals as goal

pub returns-clause-pairs : goal.returns-clause-pairs
returns-clause-pairs c = pairs-are

pub returns-clause-keys : goal.returns-clause-keys
returns-clause-keys c = keys-are
