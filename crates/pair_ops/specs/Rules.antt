-- The rules of operators on pairs.
use Rattle.std.specs.Prelude.{◌≡◌, ℕ, List, [], ◌∷◌, if◌then◌else◌, slice_index_or}
use Rattle.data_set_trees.specs.declared.clauses.clause.CheckedMeasure.{CheckedMeasure}
use Rattle.data_set_trees.specs.declared.tree.DataSetOperator.{DataSetOperator}
use Rattle.data_set_trees.specs.declared.tree.DataSetOperator.TheVariants.{Pair}
use Rattle.data_set_trees.specs.checked.Operators.{Operator, IsTyped}
use Rattle.held_index.specs.Wants.{in_parts, whole}
use Rattle.held_index.specs.declared.want.Want.{Want}
use Rattle.pair_eval.specs.Plans.{pair_of, partner_numbers}
use Rattle.operator_meaning.specs.pairs.Pairs.{PairOn, is_left_main}

-- an operator on a pair of data sets
abbrev pub IsPair : DataSetOperator → Type 0
IsPair operator = (items : List CheckedMeasure) × (operator ≡ Pair items)

-- an operator with its first two operands
abbrev pub pair_in : Operator → PairOn
pair_in o = pair_of o.operator (slice_index_or o.operands 0 []) (slice_index_or o.operands 1 []) o.structure

-- the numbers of the main operand and of the other one
abbrev pub main_number : PairOn → ℕ
main_number p = if is_left_main p then 0 else 1

abbrev pub partner_number : PairOn → ℕ
partner_number p = if is_left_main p then 1 else 0

-- the main operand is wanted in parts, by the identifiers that the other one has, and the other one whole
abbrev pub wants_on : PairOn → List Want
wants_on p = if is_left_main p then in_parts 0 (partner_numbers p) ∷ whole 1 ∷ [] else whole 0 ∷ in_parts 1 (partner_numbers p) ∷ []

-- what the rule of an operator wants held: of one on a pair both operands
abbrev pub wanted_of : Operator → List Want
wanted_of o = by_operator o.operator
  where
    by_operator : DataSetOperator → List Want
    by_operator (Pair items) = wants_on (pair_in o)
    by_operator _ = []

-- the operator is one on a pair, and well typed, the plan is the operator's, and what is wanted is what its rule wants
pub record IsRule (o : Operator) (plan : PairOn) (wants : List Want) : Type 0 where
  pub typed : IsTyped o
  pub pair : IsPair o.operator
  pub planned : plan ≡ pair_in o
  pub wanted : wants ≡ wanted_of o
