-- What `exists_in` gives on two data sets (VTL 2.0 Reference Manual, exists_in; docs/language.md, "Structures of
-- results"). A point of the first is met where the second has a point that agrees with it.
use Rattle.std.specs.Prelude.{◌≡◌, ℕ, Bool, true, not, ◌++◌, List, ◌∷◌, filter, Option, Some}
use Rattle.std.specs.Bool.{then_some}
use Rattle.std.specs.List.{list_any}
use Rattle.std.specs.Ordering.{eq_by_cmp}
use Rattle.std.specs.FinMap.{keys}
use Rattle.vtl_values.specs.declared.kind.Role.TheVariants.{Viral}
use Rattle.vtl_values.specs.declared.structure.Component.{Component}
use Rattle.vtl_values.specs.declared.value.Value.{Value}
use Rattle.vtl_values.specs.declared.value.Value.TheVariants.{Truth}
use Rattle.vtl_values.specs.Order.{key_cmp}
use Rattle.vtl_syntax.specs.declared.words.ExistsRows.{ExistsRows}
use Rattle.vtl_syntax.specs.declared.words.ExistsRows.TheVariants as rows
use Rattle.data_model.specs.Outcomes.{Outcome}
use Rattle.point_sets.specs.DataSets.{DataSet}
use Rattle.data_set_trees.specs.clauses.Frames.{numbers_of}
use Rattle.clause_meaning.specs.Clauses.{values_at}
use Rattle.clause_meaning.specs.Workings.{Working, outcome_of, point_by_point, never}
use Rattle.data_set_trees.specs.Components.{identifiers, has_name, is_taken}
use Rattle.operator_meaning.specs.pairs.Pairs.{key_between, value_where}

-- The operator with the structures of both operands and of its result.
pub record ExistsOn : Type 0 where
  pub rows : ExistsRows
  pub left : List Component
  pub right : List Component
  pub structure : List Component

-- the operator on operands of these structures, with a result of that one
abbrev pub exists_on : ExistsRows → List Component → List Component → List Component → ExistsOn
exists_on rows left right structure = record { rows = rows; left = left; right = right; structure = structure }

-- ---- points that agree

-- the identifiers that both operands have, as the second has them
abbrev pub common : ExistsOn → List Component
common e = filter (λ c. is_taken c.name (identifiers e.left)) (identifiers e.right)

-- their values in a key of the first operand, and in one of the second
abbrev pub left_values : ExistsOn → List Value → List Value
left_values e key = key_between e.left (common e) key

abbrev pub right_values : ExistsOn → List Value → List Value
right_values e key = key_between e.right (common e) key

-- a key of the first operand and one of the second have the same values of them
abbrev pub agree : ExistsOn → List Value → List Value → Bool
agree e key other = eq_by_cmp key_cmp (right_values e other) (left_values e key)

-- the second operand has a point whose key agrees with this one
abbrev pub is_met : ExistsOn → DataSet → List Value → Bool
is_met e b key = list_any (agree e key) (keys b)

-- in words: a key of the first operand and one of the second have one value for each identifier that both operands have
abbrev pub AgreeByName : ExistsOn → List Value → List Value → Type 0
AgreeByName e key other =
    (name : List ℕ) (v w : Value) → value_where (has_name name) (identifiers e.left) key ≡ Some v →
    value_where (has_name name) (identifiers e.right) other ≡ Some w → v ≡ w

-- ---- the result

-- whether a point stays
abbrev pub stays : ExistsRows → Bool → Bool
stays rows.All met = true
stays rows.True met = met
stays rows.False met = not met

-- whether a point of the first operand is met, and its viral attributes
abbrev pub met_values : ExistsOn → Bool → List Value → List Value → List Value
met_values e met key rest = Truth met ∷ values_at (numbers_of Viral e.left) (key ++ rest)

-- they are its values in the result, if it stays
abbrev pub exists_values : ExistsOn → Bool → List Value → List Value → Option (List Value)
exists_values e met key rest = then_some (stays e.rows met) (met_values e met key rest)

-- each point of the first operand by itself; none is out of range
abbrev pub exists_working : ExistsOn → DataSet → DataSet → Working
exists_working e a b = point_by_point never (λ key rest. exists_values e (is_met e b key) key rest) a

-- what the operator gives
abbrev pub exists_meaning : ExistsOn → DataSet → DataSet → Outcome key_cmp (List Value)
exists_meaning e a b = outcome_of (exists_working e a b)
