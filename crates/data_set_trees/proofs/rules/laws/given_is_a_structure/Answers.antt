use Rattle.data_set_trees.proofs.rules.Given.{datapoints_give, hierarchies_give}
use Rattle.data_set_trees.proofs.rules.laws.given_is_a_structure.Goals as goal

pub returns-clause-datapoint : goal.returns-clause-datapoint
returns-clause-datapoint c = datapoints_give

pub returns-clause-hierarchy : goal.returns-clause-hierarchy
returns-clause-hierarchy c = hierarchies_give
