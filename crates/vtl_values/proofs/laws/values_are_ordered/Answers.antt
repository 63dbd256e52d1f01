use Rattle.vtl_values.proofs.Values.{value_cmp-IsTotalOrder, value_cmp-IsAntisymmetric, key_cmp-IsTotalOrder, key_cmp-IsAntisymmetric}
use Rattle.vtl_values.proofs.laws.values_are_ordered.Goals as goal

pub returns-clause-values : goal.returns-clause-values
returns-clause-values c = value_cmp-IsTotalOrder

pub returns-clause-value_ties : goal.returns-clause-value_ties
returns-clause-value_ties c = value_cmp-IsAntisymmetric

pub returns-clause-keys : goal.returns-clause-keys
returns-clause-keys c = key_cmp-IsTotalOrder

pub returns-clause-key_ties : goal.returns-clause-key_ties
returns-clause-key_ties c = key_cmp-IsAntisymmetric
