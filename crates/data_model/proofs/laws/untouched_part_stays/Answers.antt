use Rattle.data_model.proofs.DeltaLemmas.{same_part, same_filtered}
use Rattle.data_model.proofs.laws.untouched_part_stays.Goals as goal

pub returns-clause-by_keys : goal.returns-clause-by_keys
returns-clause-by_keys g c = same_part g.met.K.Ord.total c.requires.exact

pub returns-clause-by_values : goal.returns-clause-by_values
returns-clause-by_values g c = same_filtered g.met.K.Ord.total c.requires.exact
