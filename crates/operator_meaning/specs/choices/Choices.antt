-- What `if c then a else b` gives on data sets (VTL 2.0 Reference Manual, if-then-else; docs/language.md, "Pairs"). The
-- operands are the condition and the branches that are data sets; they have the same identifiers, whatever the order.
use Rattle.std.specs.Prelude.{ℕ, Bool, true, false, ◌++◌, List, [], map, Option, Some, None, option_map, option_and_then, is_none, slice_get, unwrap_or}
use Rattle.std.specs.Option.{option_map_or}
use Rattle.std.specs.FinMap.{empty, get}
use Rattle.vtl_values.specs.declared.kind.Role.TheVariants.{Measure}
use Rattle.vtl_values.specs.declared.structure.Component.{Component}
use Rattle.vtl_values.specs.declared.value.Value.{Value}
use Rattle.vtl_values.specs.Order.{key_cmp}
use Rattle.data_model.specs.Outcomes.{Outcome}
use Rattle.point_sets.specs.DataSets.{DataSet}
use Rattle.scalar_trees.specs.declared.tree.CheckedExpr.{CheckedExpr}
use Rattle.scalar_meaning.specs.Logic.{holds}
use Rattle.scalar_meaning.specs.Rows.{point_row}
use Rattle.data_set_trees.specs.clauses.Frames.{has_role}
use Rattle.clause_meaning.specs.Clauses.{values_on}
use Rattle.clause_meaning.specs.Workings.{Working, outcome_of, point_by_point}
use Rattle.data_set_trees.specs.declared.tree.Branch.{Branch}
use Rattle.data_set_trees.specs.declared.tree.Branch.TheVariants as branch
use Rattle.data_set_trees.specs.declared.tree.ChoiceMeasure.{ChoiceMeasure}
use Rattle.data_set_trees.specs.Components.{virals}
use Rattle.operator_meaning.specs.pairs.Pairs.{key_between, value_where, viral_value, codes_of, one_or_both}

-- The operator with the structures of its operands, the condition first, and of its result.
pub record ChoiceOn : Type 0 where
  pub holds : Branch
  pub fails : Branch
  pub measures : List ChoiceMeasure
  pub operands : List (List Component)
  pub structure : List Component

-- a conditional on operands of these structures, with a result of that one
abbrev pub choice_on : Branch → Branch → List ChoiceMeasure → List (List Component) → List Component → ChoiceOn
choice_on holds fails measures operands structure = record { holds = holds; fails = fails; measures = measures; operands = operands; structure = structure }

-- ---- operands

-- the structure of the operand with this number, from 0
abbrev pub structure_at : ChoiceOn → ℕ → List Component
structure_at c n = unwrap_or (slice_get c.operands n) []

abbrev pub set_at : List DataSet → ℕ → DataSet
set_at sets n = unwrap_or (slice_get sets n) empty

abbrev pub condition : ChoiceOn → List Component
condition c = structure_at c 0

-- the number of the operand that a branch is, if it is a data set
abbrev pub number_if : ℕ → Branch → Option ℕ
number_if n branch.DataSet = Some n
number_if n branch.Scalar = None

-- how many operands there are up to the first branch
abbrev pub count_with : Branch → ℕ
count_with branch.DataSet = 2
count_with branch.Scalar = 1

-- the number of the operand that is chosen, if it is a data set, where the condition is true and where it isn't
abbrev pub chosen_number : ChoiceOn → Bool → Option ℕ
chosen_number c true = number_if 1 c.holds
chosen_number c false = number_if (count_with c.holds) c.fails

-- the structure of the branch that is chosen; a scalar has no components
abbrev pub chosen_structure : ChoiceOn → Bool → List Component
chosen_structure c truth = option_map_or (structure_at c) (chosen_number c truth) []

-- ---- keys

-- at a key of the condition: that of an operand
abbrev pub operand_key : ChoiceOn → ℕ → List Value → List Value
operand_key c n key = key_between (condition c) (structure_at c n) key

-- at a key of an operand: that of the condition
abbrev pub condition_key : ChoiceOn → ℕ → List Value → List Value
condition_key c n key = key_between (structure_at c n) (condition c) key

-- ---- points

-- a key and the other values of a point
abbrev pub PointThere : Type 0
PointThere = Option (List Value × List Value)

-- the point that an operand has at a key of the condition
abbrev pub point_at : ChoiceOn → List DataSet → ℕ → List Value → PointThere
point_at c sets n key = option_map (λ rest. (operand_key c n key, rest)) (get (set_at sets n) (operand_key c n key))

-- the point of the branch that is chosen; a scalar is there at each key, without values
abbrev pub chosen_point : ChoiceOn → List DataSet → Bool → List Value → PointThere
chosen_point c sets truth key = option_map_or (λ n. point_at c sets n key) (chosen_number c truth) (Some ([], []))

-- the condition is true in a point with these values, and neither false nor null
abbrev pub is_true_in : ChoiceOn → List Value → Bool
is_true_in c values = option_map_or holds (value_where (has_role Measure) (condition c) values) false

-- ---- values

-- what a measure is in the branch that is chosen
abbrev pub value_in : Bool → ChoiceMeasure → CheckedExpr
value_in true m = m.holds
value_in false m = m.fails

-- of all values of the condition's point and of that of the branch: those of the viral attributes of the result
abbrev pub viral_values : ChoiceOn → Bool → List Value → List Value → List Value
viral_values c truth own chosen = map (λ v. one_or_both (codes_of v.codes) (viral_value v.name (condition c) own) (viral_value v.name (chosen_structure c truth) chosen)) (virals c.structure)

-- the measures, and then the viral attributes; none where a measure is out of range
abbrev pub chosen_values : ChoiceOn → Bool → List Value → List Value × List Value → Option (List Value)
chosen_values c truth own point =
    option_map (λ vs. vs ++ viral_values c truth own (point.0 ++ point.1)) (values_on (point_row point.0 point.1) (map (value_in truth) c.measures))

-- ---- the result

-- of a point of the condition, where the branch that is chosen has a point: what the result has there, if it isn't out of range
abbrev pub made_of : ChoiceOn → List DataSet → List Value → List Value → Option (Option (List Value))
made_of c sets key rest =
    let own = key ++ rest in
    option_map (chosen_values c (is_true_in c own) own) (chosen_point c sets (is_true_in c own) key)

-- it is out of range
abbrev pub is_beyond : Option (Option (List Value)) → Bool
is_beyond made = option_map_or is_none made false

-- it is there
abbrev pub in_range : Option (Option (List Value)) → Option (List Value)
in_range made = option_and_then (λ values. values) made

-- each point of the condition with the branch that is chosen, which alone is worked out
abbrev pub choice_working : ChoiceOn → List DataSet → Working
choice_working c sets = point_by_point (λ key rest. is_beyond (made_of c sets key rest)) (λ key rest. in_range (made_of c sets key rest)) (set_at sets 0)

-- what the operator gives on the condition and the branches that are data sets
abbrev pub choice_meaning : ChoiceOn → List DataSet → Outcome key_cmp (List Value)
choice_meaning c sets = outcome_of (choice_working c sets)
