-- How operators are told apart, for those who share them.
use Rattle.std.specs.Coded.{Coded}
use Rattle.data_set_trees.specs.contracts.tree.DataSetOperator as operator
use Rattle.data_set_trees.specs.declared.tree.DataSetOperator.{DataSetOperator}

abbrev pub operator_coded : Coded DataSetOperator
operator_coded = (operator.the_row).coded
