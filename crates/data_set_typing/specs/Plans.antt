-- What a scalar operator on any operands comes to, by the structures of its data sets.
use Rattle.std.specs.Prelude.{ℕ, Bool, ◌&&◌, List, [], ◌∷◌, map, length, Option, Some, unwrap_or, Result, Ok, if◌then◌else◌}
use Rattle.vtl_values.specs.declared.place.Place.{Place}
use Rattle.vtl_values.specs.declared.structure.Component.{Component}
use Rattle.scalar_trees.specs.declared.typing.scope.Slot.{Slot}
use Rattle.scalar_trees.specs.declared.typing.stop.Fault.TheVariants.{WrongType, WrongStructure, NameTwice}
use Rattle.scalar_trees.specs.declared.typing.stop.Refusal.{Refusal}
use Rattle.scalar_trees.specs.typing.Steps.{◌>>=◌, refused}
use Rattle.data_set_trees.specs.declared.clauses.clause.CheckedMeasure.{CheckedMeasure}
use Rattle.data_set_trees.specs.declared.clauses.clause.CheckedClause.TheVariants as clause
use Rattle.data_set_trees.specs.clauses.Clauses.{demands}
use Rattle.data_set_trees.specs.declared.form.Form.{Form}
use Rattle.data_set_trees.specs.declared.measure.Measure.{Measure}
use Rattle.data_set_trees.specs.declared.operand.DataSet.{DataSet}
use Rattle.data_set_trees.specs.declared.operand.Operand.{Operand}
use Rattle.data_set_trees.specs.declared.operand.Operand.TheVariants as operand
use Rattle.data_set_trees.specs.declared.tree.DataSetOperator.TheVariants as operator
use Rattle.data_set_trees.specs.Components.{measures, virals_agree}
use Rattle.data_set_trees.specs.Forms.{changed_name, is_of_two}
use Rattle.data_set_trees.specs.Trees.{applied}
use Rattle.data_set_trees.specs.Lifted.{answer, slot_of, all_fit, each_fits, set_place, has_one_if, is_free, checked_measure}
use Rattle.data_set_trees.specs.Pairs.{both, meeting, identifiers_agree, measures_agree, result_fits, joined}
use Rattle.data_set_parts.specs.Results.{structures_of, structure_after}
use Rattle.data_set_parts.specs.Walks.{each}
use Rattle.data_set_typing.specs.declared.plan.Plan.{Plan}
use Rattle.data_set_typing.specs.declared.plan.Plan.TheVariants as plan

-- what the operator is where these stand for its data sets, as a measure of the new name if there is one
abbrev pub checked_at : Form → Place → List Operand → List (Option Slot) → Option (List ℕ) → List ℕ → Result CheckedMeasure Refusal
checked_at form place operands slots changed name = answer form place operands slots >>= (λ t. Ok (checked_measure (unwrap_or changed name) t))

-- ---- on none

abbrev pub planned_on_none : Form → Place → List Operand → Result Plan Refusal
planned_on_none form place operands = answer form place operands [] >>= (λ t. Ok (plan.Scalar t))

-- ---- on one data set

abbrev pub measure_checked : Form → Place → List Operand → Option (List ℕ) → Measure → Result CheckedMeasure Refusal
measure_checked form place operands changed m = checked_at form place operands (Some (slot_of m) ∷ []) changed m.name

abbrev pub demands_on_one : Form → Place → List Operand → Option (List ℕ) → List Component → Result (Unit {0}) Refusal
demands_on_one form place operands changed s =
    demands place ((each_fits form place operands, WrongType) ∷ (has_one_if changed (measures s), WrongStructure) ∷ (is_free changed s, NameTwice) ∷ [])

abbrev pub items_on_one : Form → Place → List Operand → Option (List ℕ) → List Component → Result (List CheckedMeasure) Refusal
items_on_one form place operands changed s =
    demands_on_one form place operands changed s >>= (λ met. answer form place operands [] >>= (λ constants. each (measure_checked form place operands changed) (measures s)))

abbrev pub of_one : List Component → List CheckedMeasure → Plan
of_one s items = plan.Applied (operator.Clause (clause.Measures items)) (structure_after (clause.Measures items) s)

abbrev pub planned_on_one : Form → Place → List Operand → Option (List ℕ) → List Component → Result Plan Refusal
planned_on_one form place operands changed s = items_on_one form place operands changed s >>= (λ items. Ok (of_one s items))

-- ---- on two

abbrev pub pair_checked : Form → Place → List Operand → Option (List ℕ) → ℕ → Measure × Measure → Result CheckedMeasure Refusal
pair_checked form place operands changed count p = checked_at form place operands (both count p) changed p.0.name

abbrev pub met_of : Option (List ℕ) → List Component → List Component → List (Measure × Measure)
met_of changed s t = meeting changed (measures s) (measures t)

abbrev pub structures_meet : Option (List ℕ) → List Component → List Component → Bool
structures_meet changed s t = identifiers_agree s t && (measures_agree changed (measures s) (measures t) && virals_agree s t)

abbrev pub demands_on_two : Form → Place → List Operand → Option (List ℕ) → List Component → List Component → Result (Unit {0}) Refusal
demands_on_two form place operands changed s t =
    demands place ((each_fits form place operands && all_fit form place operands (map (both (length s)) (met_of changed s t)), WrongType) ∷ (structures_meet changed s t, WrongStructure) ∷ [])

abbrev pub items_on_two : Form → Place → List Operand → Option (List ℕ) → List Component → List Component → Result (List CheckedMeasure) Refusal
items_on_two form place operands changed s t =
    demands_on_two form place operands changed s t >>= (λ agree. each (pair_checked form place operands changed (length s)) (met_of changed s t))

abbrev pub of_two : List Component → List Component → List CheckedMeasure → Plan
of_two s t items = plan.Applied (operator.Pair items) (joined items s t)

-- ---- on any operands

-- on more data sets than the operator takes
abbrev pub too_many : Form → Place → List Operand → Result Plan Refusal
too_many form place operands = demands place ((each_fits form place operands, WrongType) ∷ []) >>= (λ met. refused WrongStructure place)

abbrev pub planned_on_two : Form → Place → List Operand → Option (List ℕ) → List Component → List Component → Result Plan Refusal
planned_on_two form place operands changed s t = items_on_two form place operands changed s t >>= (λ items. result_fits place (joined items s t) >>= (λ fits. Ok (of_two s t items)))

abbrev pub planned_on : Form → Place → List Operand → Option (List ℕ) → List (List Component) → Result Plan Refusal
planned_on form place operands changed [] = planned_on_none form place operands
planned_on form place operands changed (s ∷ []) = planned_on_one form place operands changed s
planned_on form place operands changed (s ∷ t ∷ []) = if is_of_two form then planned_on_two form place operands changed s t else too_many form place operands
planned_on form place operands changed _ = too_many form place operands

abbrev pub planned : Form → Place → List Operand → Result Plan Refusal
planned form place operands = planned_on form place operands (changed_name form (set_place operands)) (structures_of operands)

-- a plan carried out on the data sets
abbrev pub carried_out : Place → Plan → List DataSet → Operand
carried_out place (plan.Scalar t) sets = operand.Scalar t
carried_out place (plan.Applied o structure) sets = operand.DataSet (applied o place sets structure)
