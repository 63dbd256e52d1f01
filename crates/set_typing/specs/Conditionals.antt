-- What a conditional on data sets comes to, by the structures of its data sets.
use Rattle.std.specs.Prelude.{ℕ, Bool, true, false, ◌&&◌, ◌++◌, List, [], ◌∷◌, map, length, find, nat_eq, option_map, Result, Ok}
use Rattle.std.specs.List.{list_all}
use Rattle.vtl_values.specs.declared.kind.Role.TheVariants as role
use Rattle.vtl_values.specs.declared.place.Place.{Place}
use Rattle.vtl_values.specs.declared.structure.Component.{Component}
use Rattle.scalar_trees.specs.declared.typing.stop.Fault.TheVariants.{WrongType, WrongStructure}
use Rattle.scalar_trees.specs.declared.typing.stop.Refusal.{Refusal}
use Rattle.scalar_trees.specs.declared.typing.typed.Typed.{Typed}
use Rattle.scalar_trees.specs.typing.Steps.{◌>>=◌, refused}
use Rattle.data_set_trees.specs.clauses.After.{made}
use Rattle.data_set_trees.specs.clauses.Clauses.{demands}
use Rattle.data_set_trees.specs.declared.measure.Measure.{Measure}
use Rattle.data_set_trees.specs.declared.operand.DataSet.{DataSet}
use Rattle.data_set_trees.specs.declared.operand.Operand.{Operand}
use Rattle.data_set_trees.specs.declared.operand.Operand.TheVariants as operand
use Rattle.data_set_trees.specs.declared.tree.Branch.{Branch}
use Rattle.data_set_trees.specs.declared.tree.ChoiceMeasure.{ChoiceMeasure}
use Rattle.data_set_trees.specs.declared.tree.DataSetOperator.TheVariants as operator
use Rattle.data_set_trees.specs.Choices.{condition_fits, branches_fit, choice_measure}
use Rattle.data_set_trees.specs.Components.{identifiers, virals, measures, further, include, virals_agree, are_alike}
use Rattle.data_set_trees.specs.Lifted.{slot_of, stands}
use Rattle.data_set_trees.specs.Pairs.{is_called, result_fits}
use Rattle.data_set_trees.specs.Trees.{applied}
use Rattle.data_set_parts.specs.Joins.{by_parts}
use Rattle.data_set_parts.specs.Results.{structures_of}
use Rattle.data_set_parts.specs.Walks.{each}
use Rattle.set_typing.specs.Plans.{StructureAnswer}
use Rattle.set_typing.specs.declared.chosen.Chosen.{Chosen}

-- ---- demands

-- a branch has the identifiers of the condition, and their viral attributes agree
abbrev pub belongs : List Component → List Component → Bool
belongs c s = (include (identifiers c) (identifiers s) && include (identifiers s) (identifiers c)) && virals_agree c s

abbrev pub of_one : List (List Component) → Bool
of_one [] = true
of_one (s ∷ ss) = list_all (are_alike s) ss

-- the condition has one measure, and the branches belong to it and are of one structure
abbrev pub belong : List Component → List (List Component) → Bool
belong c ss = (nat_eq (length (measures c)) 1 && list_all (belongs c) ss) && of_one ss

abbrev pub structures_fit : Operand → List (List Component) → Bool
structures_fit (operand.Scalar t) ss = false
structures_fit (operand.DataSet c) [] = false
structures_fit (operand.DataSet c) (s ∷ ss) = belong c.structure (s ∷ ss)

abbrev pub demanded_of : Place → Operand → Operand → Operand → List (List Component) → Result (Unit {0}) Refusal
demanded_of place c a b ss = demands place ((condition_fits c && branches_fit a b, WrongType) ∷ (structures_fit c ss, WrongStructure) ∷ [])

-- ---- the result

abbrev pub first_measures : List (List Component) → List Measure
first_measures [] = []
first_measures (s ∷ ss) = measures s

-- what a data set has of a measure
abbrev pub in_set : List ℕ → DataSet → Typed
in_set name d = stands (option_map slot_of (find (is_called name) (measures d.structure)))

-- the measures with what they are in each branch
abbrev pub items_of : Place → Operand → Operand → Operand → List (List Component) → Result (List ChoiceMeasure) Refusal
items_of place c a b ss = demanded_of place c a b ss >>= (λ met. each (choice_measure place a b) (first_measures ss))

abbrev pub first_identifiers : List (List Component) → List Component
first_identifiers [] = []
first_identifiers (s ∷ ss) = identifiers s

abbrev pub all_virals : List Component → List (List Component) → List Component
all_virals before [] = before
all_virals before (s ∷ ss) = all_virals (before ++ further before (virals s)) ss

abbrev pub item_component : ChoiceMeasure → Component
item_component m = made role.Measure m.kind m.name

abbrev pub components_with : List ChoiceMeasure → List (List Component) → List Component
components_with items ss = by_parts (first_identifiers ss) (map item_component items) (all_virals [] ss)

abbrev pub structure_with : Place → List ChoiceMeasure → List (List Component) → StructureAnswer
structure_with place items ss = result_fits place (components_with items ss) >>= (λ fits. Ok (components_with items ss))

abbrev pub choice_planned : Place → Operand → Operand → Operand → Result Chosen Refusal
choice_planned place c a b =
    items_of place c a b (structures_of (a ∷ b ∷ []))
    >>= (λ items. structure_with place items (structures_of (c ∷ a ∷ b ∷ []))
    >>= (λ structure. Ok (record { items = items; structure = structure })))

-- of a condition and two branches
abbrev pub planned : Place → List Operand → Result Chosen Refusal
planned place (c ∷ a ∷ b ∷ []) = choice_planned place c a b
planned place _ = refused WrongStructure place

-- what was chosen, carried out on the data sets
abbrev pub chosen_on : Place → Branch → Branch → List DataSet → Chosen → Operand
chosen_on place holds fails sets p = operand.DataSet (applied (operator.Choice holds fails p.items) place sets p.structure)
