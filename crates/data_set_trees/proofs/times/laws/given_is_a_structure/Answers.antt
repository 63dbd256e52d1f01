use Rattle.data_set_trees.proofs.times.Given.{gives_structures}
use Rattle.data_set_trees.proofs.times.laws.given_is_a_structure.Goals as goal

pub returns : goal.returns
returns c = gives_structures
