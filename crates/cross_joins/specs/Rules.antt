-- The rules of cross joins.
use Rattle.std.specs.Prelude.{◌≡◌, length, List}
use Rattle.vtl_syntax.specs.declared.words.JoinFunction.TheVariants.{Cross}
use Rattle.data_set_trees.specs.declared.tree.DataSetOperator.{DataSetOperator}
use Rattle.data_set_trees.specs.declared.tree.DataSetOperator.TheVariants.{Join}
use Rattle.data_set_trees.specs.checked.Operators.{Operator, an_operator}
use Rattle.held_index.specs.Wants.{all_whole}
use Rattle.held_index.specs.declared.want.Want.{Want}
use Rattle.operator_meaning.specs.joins.Joins.{JoinOn}
use Rattle.operator_meaning.specs.joins.Typed.{IsTypedJoinOn}

-- a cross join
abbrev pub IsCross : DataSetOperator → Type 0
IsCross operator = operator ≡ Join Cross

-- the operator is this join, which is a cross join and well typed
pub record IsCrossOn (o : Operator) (j : JoinOn) : Type 0 where
  pub is : o ≡ an_operator (Join j.function) j.operands j.structure
  pub cross : j.function ≡ Cross
  pub typed : IsTypedJoinOn j

-- and this is wanted of its operands
pub record IsRule (o : Operator) (j : JoinOn) (wants : List Want) : Type 0 where
  pub join : IsCrossOn o j
  pub wanted : wants ≡ all_whole (length o.operands)
