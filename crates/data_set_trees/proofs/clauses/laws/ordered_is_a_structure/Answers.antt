use Rattle.data_set_trees.proofs.clauses.Ordered.{orders_structures}
use Rattle.data_set_trees.proofs.clauses.laws.ordered_is_a_structure.Goals as goal

pub returns : goal.returns
returns c = orders_structures
