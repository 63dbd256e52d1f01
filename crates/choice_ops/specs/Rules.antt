-- The rules of conditionals.
use Rattle.std.specs.Prelude.{◌≡◌, List, length}
use Rattle.held_index.specs.Wants.{all_whole}
use Rattle.held_index.specs.declared.want.Want.{Want}
use Rattle.data_set_trees.specs.declared.tree.Branch.{Branch}
use Rattle.data_set_trees.specs.declared.tree.ChoiceMeasure.{ChoiceMeasure}
use Rattle.data_set_trees.specs.declared.tree.DataSetOperator.{DataSetOperator}
use Rattle.data_set_trees.specs.declared.tree.DataSetOperator.TheVariants.{Choice}
use Rattle.data_set_trees.specs.checked.Operators.{Operator, IsTyped}

-- a conditional
pub record IsChoice (operator : DataSetOperator) : Type 0 where
  pub holds : Branch
  pub fails : Branch
  pub measures : List ChoiceMeasure
  pub is : operator ≡ Choice holds fails measures

-- what the rule of a conditional wants held: all operands
abbrev pub wanted_of : Operator → List Want
wanted_of o = all_whole (length o.operands)

-- the operator is a conditional, and well typed, and what is wanted is what its rule wants
pub record IsRule (o : Operator) (wants : List Want) : Type 0 where
  pub typed : IsTyped o
  pub choice : IsChoice o.operator
  pub wanted : wants ≡ wanted_of o
