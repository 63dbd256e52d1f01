use Rattle.data_model.proofs.ExampleLemmas.{sum_of-points, union-points}
use Rattle.data_model.proofs.examples.two_maps.Goals as goal

pub returns-clause-sum : goal.returns-clause-sum
returns-clause-sum c = sum_of-points

pub returns-clause-union : goal.returns-clause-union
returns-clause-union c = union-points
