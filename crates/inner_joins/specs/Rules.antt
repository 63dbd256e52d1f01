-- The rules of inner joins.
use Rattle.std.specs.Prelude.{◌≡◌, ℕ, ◌+◌, ◌-◌, ◌++◌, List, [], map, length, nat_lt, if◌then◌else◌}
use Rattle.std.specs.List.{position_or_len, range_with_len}
use Rattle.vtl_values.specs.declared.value.Value.{Value}
use Rattle.vtl_syntax.specs.declared.words.JoinFunction.TheVariants.{Inner}
use Rattle.data_set_trees.specs.Components.{identifiers}
use Rattle.data_set_trees.specs.declared.tree.DataSetOperator.{DataSetOperator}
use Rattle.data_set_trees.specs.declared.tree.DataSetOperator.TheVariants.{Join}
use Rattle.data_set_trees.specs.checked.Operators.{Operator}
use Rattle.held_index.specs.Wants.{in_parts, whole}
use Rattle.held_index.specs.declared.want.Want.{Want}
use Rattle.join_eval.specs.Plans.{structure_of}
use Rattle.operator_meaning.specs.joins.Joins.{JoinOn, join_on, is_whole, join_key, numbers_among}
use Rattle.operator_meaning.specs.joins.Typed.{IsTypedJoinOn}

-- an inner join
abbrev pub IsInner : DataSetOperator → Type 0
IsInner operator = operator ≡ Join Inner

-- the join that such an operator is
abbrev pub join_in : Operator → JoinOn
join_in o = join_on Inner o.operands o.structure

-- the join is an inner one, and well typed
pub record IsInnerOn (j : JoinOn) : Type 0 where
  pub inner : j.function ≡ Inner
  pub typed : IsTypedJoinOn j

-- the main operand is the first that has all identifiers
abbrev pub main_number : JoinOn → ℕ
main_number j = position_or_len (is_whole j) j.operands

-- the key of the join for one of the main operand
abbrev pub key_from : JoinOn → List Value → List Value
key_from j own = join_key j (structure_of j (main_number j)) own

-- the place of another operand among the others, and the number of the one at a place
abbrev pub place_of : ℕ → ℕ → ℕ
place_of main operand = if nat_lt operand main then operand else operand - 1

abbrev pub number_at : ℕ → ℕ → ℕ
number_at main place = if nat_lt place main then place else place + 1

-- the numbers of the other operands
abbrev pub others_of : JoinOn → List ℕ
others_of j = map (number_at (main_number j)) (range_with_len 0 (length j.operands - 1))

-- where the main operand has the identifiers of another one
abbrev pub partner_numbers : JoinOn → ℕ → List ℕ
partner_numbers j operand = numbers_among (identifiers (structure_of j (main_number j))) (identifiers (structure_of j operand))

-- the main operand in parts, by the identifiers that another one has
abbrev pub parts_for : JoinOn → ℕ → Want
parts_for j operand = in_parts (main_number j) (partner_numbers j operand)

-- the other operands are wanted whole, and the main one in parts for each of them
abbrev pub wants_on : JoinOn → List Want
wants_on j = map whole (others_of j) ++ map (parts_for j) (others_of j)

-- what the rule of an operator wants held: of an inner join the operands so
abbrev pub wanted_of : Operator → List Want
wanted_of o = by_operator o.operator
  where
    by_operator : DataSetOperator → List Want
    by_operator (Join Inner) = wants_on (join_in o)
    by_operator _ = []

-- the join is an inner one and well typed, and this is the number of its main operand
pub record IsInnerPlan (j : JoinOn) (main : ℕ) : Type 0 where
  pub join : IsInnerOn j
  pub main_is : main ≡ main_number j

-- the operator is an inner join, the plan is its join, which is well typed, and what is wanted is what its rule wants
pub record IsRule (o : Operator) (j : JoinOn) (wants : List Want) : Type 0 where
  pub inner : IsInner o.operator
  pub join : IsInnerOn j
  pub planned : j ≡ join_in o
  pub wanted : wants ≡ wanted_of o
