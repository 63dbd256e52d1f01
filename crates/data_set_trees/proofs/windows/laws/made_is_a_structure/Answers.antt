use Rattle.data_set_trees.proofs.windows.Made.{calc_gives_structures, measures_give_structures}
use Rattle.data_set_trees.proofs.windows.laws.made_is_a_structure.Goals as goal

pub returns-clause-calc : goal.returns-clause-calc
returns-clause-calc c = calc_gives_structures

pub returns-clause-measures : goal.returns-clause-measures
returns-clause-measures c = measures_give_structures
