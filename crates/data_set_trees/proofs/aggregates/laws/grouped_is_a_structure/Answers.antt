use Rattle.data_set_trees.proofs.aggregates.Grouped.{gives_structures}
use Rattle.data_set_trees.proofs.aggregates.laws.grouped_is_a_structure.Goals as goal

pub returns : goal.returns
returns c = gives_structures
