-- The rules of clauses.
use Rattle.std.specs.Prelude.{◌≡◌, ℕ, true, List, [], ◌∷◌, Option, Some, None, is_some}
use Rattle.vtl_values.specs.declared.structure.Component.{Component}
use Rattle.data_set_trees.specs.declared.clauses.clause.CheckedClause.{CheckedClause}
use Rattle.data_set_trees.specs.clauses.Frames.{frame_of}
use Rattle.data_set_trees.specs.declared.tree.DataSetOperator.{DataSetOperator}
use Rattle.data_set_trees.specs.declared.tree.DataSetOperator.TheVariants.{Clause, InJoin}
use Rattle.data_set_trees.specs.checked.Operators.{an_operator, Operator, IsTyped}
use Rattle.clause_eval.specs.Points.{picks_of}

-- the clause that an operator is, on a data set or in a join
abbrev pub clause_in : DataSetOperator → Option CheckedClause
clause_in (Clause clause) = Some clause
clause_in (InJoin clause) = Some clause
clause_in _ = None

-- an operator that is a clause
abbrev pub IsClause : DataSetOperator → Type 0
IsClause operator = is_some (clause_in operator) ≡ true

-- an operator on one data set
abbrev pub on_one : DataSetOperator → List Component → List Component → Operator
on_one operator operand structure = an_operator operator (operand ∷ []) structure

-- the operator is a clause, and well typed on the operand, and these are the numbers of the values that it takes over
pub record IsRule (operator : DataSetOperator) (operand structure : List Component) (picks : List ℕ) : Type 0 where
  pub typed : IsTyped (on_one operator operand structure)
  pub clause : CheckedClause
  pub is_clause : clause_in operator ≡ Some clause
  pub picks_are : picks ≡ picks_of clause (frame_of operand)
