-- The rules of left and full joins.
use Rattle.std.specs.Prelude.{◌≡◌, Bool, true, false, List, length}
use Rattle.vtl_syntax.specs.declared.words.JoinFunction.{JoinFunction}
use Rattle.vtl_syntax.specs.declared.words.JoinFunction.TheVariants.{Inner, Left, Full, Cross}
use Rattle.data_set_trees.specs.declared.tree.DataSetOperator.{DataSetOperator}
use Rattle.data_set_trees.specs.declared.tree.DataSetOperator.TheVariants.{Join}
use Rattle.data_set_trees.specs.checked.Operators.{Operator, IsTyped, an_operator}
use Rattle.held_index.specs.Wants.{all_whole}
use Rattle.held_index.specs.declared.want.Want.{Want}
use Rattle.operator_meaning.specs.joins.Joins.{JoinOn}

-- a left or full join, in which each operand has all identifiers
abbrev pub is_outer : JoinFunction → Bool
is_outer Inner = false
is_outer Left = true
is_outer Full = true
is_outer Cross = false

-- an operator that is one
pub record IsOuter (operator : DataSetOperator) : Type 0 where
  pub function : JoinFunction
  pub is : operator ≡ Join function
  pub outer : is_outer function ≡ true

-- the operator that is this join
abbrev pub operator_of : JoinOn → Operator
operator_of j = an_operator (Join j.function) j.operands j.structure

-- what the rule of a left or full join wants held: all operands
abbrev pub wanted_of : Operator → List Want
wanted_of o = all_whole (length o.operands)

-- the join is a left or full one, and well typed, and what is wanted is what its rule wants
pub record IsRule (j : JoinOn) (wants : List Want) : Type 0 where
  pub typed : IsTyped (operator_of j)
  pub outer : is_outer j.function ≡ true
  pub wanted : wants ≡ wanted_of (operator_of j)
