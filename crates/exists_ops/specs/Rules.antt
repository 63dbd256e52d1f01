-- The rules of `exists_in`.
use Rattle.std.specs.Prelude.{◌≡◌, List, [], ◌∷◌}
use Rattle.vtl_values.specs.declared.kind.Role.TheVariants.{Viral}
use Rattle.vtl_values.specs.declared.structure.Component.{Component}
use Rattle.vtl_syntax.specs.declared.words.ExistsRows.{ExistsRows}
use Rattle.held_index.specs.declared.want.Want.{Want}
use Rattle.data_set_trees.specs.clauses.Frames.{numbers_of}
use Rattle.data_set_trees.specs.declared.tree.DataSetOperator.{DataSetOperator}
use Rattle.data_set_trees.specs.declared.tree.DataSetOperator.TheVariants.{ExistsIn}
use Rattle.data_set_trees.specs.checked.Operators.{Operator, IsTyped, an_operator}
use Rattle.operator_meaning.specs.exists.Exists.{ExistsOn, exists_on}
use Rattle.exists_ops.specs.Parts.{left_want, right_want}
use Rattle.exists_ops.specs.declared.told.Told.{Told}

-- an operator that is `exists_in`
abbrev pub IsExists : DataSetOperator → Type 0
IsExists operator = (rows : ExistsRows) × (operator ≡ ExistsIn rows)

-- the operator on its two operands
abbrev pub operator_of : ExistsOn → Operator
operator_of e = an_operator (ExistsIn e.rows) (e.left ∷ e.right ∷ []) e.structure

-- both operands are wanted, by the identifiers that both have
abbrev pub both : ExistsOn → List Want
both e = left_want e ∷ right_want e ∷ []

abbrev pub wanted_on_two : ExistsRows → List (List Component) → List Component → List Want
wanted_on_two rows (left ∷ right ∷ operands) structure = both (exists_on rows left right structure)
wanted_on_two rows operands structure = []

-- what the rule of an operator wants held: of `exists_in` both operands
abbrev pub wanted_of : Operator → List Want
wanted_of o = by_operator o.operator
  where
    by_operator : DataSetOperator → List Want
    by_operator (ExistsIn rows) = wanted_on_two rows o.operands o.structure
    by_operator _ = []

-- the operator is well typed, and this is told of points and wanted of its operands
pub record IsRule (e : ExistsOn) (told : Told) (wants : List Want) : Type 0 where
  pub typed : IsTyped (operator_of e)
  pub rows_are : told.rows ≡ e.rows
  pub virals_are : told.virals ≡ numbers_of Viral e.left
  pub wants_are : wants ≡ both e
