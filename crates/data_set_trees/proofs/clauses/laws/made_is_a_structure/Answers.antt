use Rattle.data_set_trees.proofs.clauses.Made.{calc_gives, rename_gives, unpivot_gives, measures_give}
use Rattle.data_set_trees.proofs.clauses.laws.made_is_a_structure.Goals as goal

pub returns-clause-calc : goal.returns-clause-calc
returns-clause-calc c = calc_gives

pub returns-clause-rename : goal.returns-clause-rename
returns-clause-rename c = rename_gives

pub returns-clause-unpivot : goal.returns-clause-unpivot
returns-clause-unpivot c = unpivot_gives

pub returns-clause-measures : goal.returns-clause-measures
returns-clause-measures c = measures_give
