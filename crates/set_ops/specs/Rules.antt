-- The rules of set operators.
use Rattle.std.specs.Prelude.{◌≡◌, List, length}
use Rattle.data_set_trees.specs.declared.tree.DataSetOperator.{DataSetOperator}
use Rattle.data_set_trees.specs.declared.tree.DataSetOperator.TheVariants.{Set}
use Rattle.data_set_trees.specs.declared.tree.SetOperation.{SetOperation}
use Rattle.data_set_trees.specs.checked.Operators.{Operator, IsTyped}
use Rattle.held_index.specs.Wants.{all_whole}
use Rattle.held_index.specs.declared.want.Want.{Want}
use Rattle.set_ops.specs.Readings.{readings_of}
use Rattle.set_ops.specs.declared.reading.Reading.{Reading}

-- a set operator
abbrev pub IsSet : DataSetOperator → Type 0
IsSet operator = (operation : SetOperation) × (operator ≡ Set operation)

-- what the rule of a set operator wants held: all operands
abbrev pub wanted_of : Operator → List Want
wanted_of o = all_whole (length o.operands)

-- the operator is a set operator, and well typed, this is how its operands are read, and what is wanted is what its rule wants
pub record IsRule (o : Operator) (readings : List Reading) (wants : List Want) : Type 0 where
  pub typed : IsTyped o
  pub set : IsSet o.operator
  pub read : readings ≡ readings_of o.operands o.structure
  pub wanted : wants ≡ wanted_of o
