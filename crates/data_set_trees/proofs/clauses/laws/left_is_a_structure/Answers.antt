use Rattle.data_set_trees.proofs.clauses.Parts.{leaves_structures}
use Rattle.data_set_trees.proofs.clauses.laws.left_is_a_structure.Goals as goal

pub returns : goal.returns
returns c = leaves_structures
