-- What a plan of a conditional keeps (docs/language.md, "Pairs").
use Rattle.std.specs.Prelude.{◌≡◌, ◌&&◌, ◌++◌, ℕ, Bool, true, false, List, [], map, filter_map, slice_get, unwrap_or, is_none, Option, option_and_then}
use Rattle.std.specs.Option.{option_map_or}
use Rattle.std.specs.List.{position}
use Rattle.std.specs.declared.sync.Arc.{Arc}
use Rattle.std.specs.declared.alloc.Global.{Global}
use Rattle.vtl_values.specs.declared.kind.Role.TheVariants.{Measure, Viral}
use Rattle.vtl_values.specs.declared.structure.Component.{Component}
use Rattle.vtl_values.specs.declared.value.Value.{Value}
use Rattle.point_sets.specs.declared.point.Point.{Point}
use Rattle.point_sets.specs.DataSets.{entry_of}
use Rattle.data_set_trees.specs.clauses.Frames.{has_role}
use Rattle.data_set_trees.specs.declared.tree.Branch.{Branch}
use Rattle.data_set_trees.specs.declared.tree.Branch.TheVariants as branch
use Rattle.data_set_trees.specs.declared.tree.ChoiceMeasure.{ChoiceMeasure}
use Rattle.data_set_trees.specs.declared.tree.DataSetOperator.{DataSetOperator}
use Rattle.data_set_trees.specs.declared.tree.DataSetOperator.TheVariants.{Choice}
use Rattle.data_set_trees.specs.Components as components
use Rattle.data_set_trees.specs.Components.{identifiers, has_name}
use Rattle.data_set_trees.specs.checked.Operators.{Operator}
use Rattle.clause_eval.specs.declared.evaluation.Evaluation.{Evaluation}
use Rattle.clause_eval.specs.Evaluations.{IsEvaluation}
use Rattle.operator_meaning.specs.pairs.Pairs.{codes_of, one_or_both}
use Rattle.operator_meaning.specs.choices.Choices.{ChoiceOn, choice_on, condition, chosen_structure, chosen_values}
use Rattle.operator_meaning.specs.choices.Typed.{IsTypedChoice}
use Rattle.choice_ops.specs.declared.plan.KeyNumbers.{KeyNumbers}
use Rattle.choice_ops.specs.declared.values.ViralPlaces.{ViralPlaces}

-- ---- the operator

-- the branches of a conditional; other operators have scalars in their place, with which none is well typed
abbrev pub holds_in : DataSetOperator → Branch
holds_in (Choice holds fails items) = holds
holds_in _ = branch.Scalar

abbrev pub fails_in : DataSetOperator → Branch
fails_in (Choice holds fails items) = fails
fails_in _ = branch.Scalar

abbrev pub measures_in : DataSetOperator → List ChoiceMeasure
measures_in (Choice holds fails items) = items
measures_in _ = []

-- the conditional that an operator is
abbrev pub choice_in : Operator → ChoiceOn
choice_in o = choice_on (holds_in o.operator) (fails_in o.operator) (measures_in o.operator) o.operands o.structure

-- the components of the operand with the number that there may be
abbrev pub structure_of : List (List Component) → Option ℕ → List Component
structure_of operands number = option_map_or (λ n. unwrap_or (slice_get operands n) []) number []

-- ---- keys

-- the numbers, among the identifiers of the one structure, of those that the other one has, in the other one's order
abbrev pub numbers_between : List Component → List Component → List ℕ
numbers_between from to = filter_map (λ c. position (has_name c.name) (identifiers from)) (identifiers to)

-- from the keys of an operand of this structure to those of the condition, and back
abbrev pub key_numbers : List Component → List Component → KeyNumbers
key_numbers first structure = record { to_condition = numbers_between structure first; from_condition = numbers_between first structure }

-- ---- viral attributes

-- the number of the viral attribute of this name, if there is one
abbrev pub viral_called : List ℕ → List Component → Option ℕ
viral_called name = position (λ c. has_role Viral c && has_name name c)

-- the codes of a viral attribute of the result, and its numbers in the condition and in both branches
abbrev pub places_of : List Component → List Component → List Component → Component → ViralPlaces
places_of first holds fails v = record { codes = v.codes; own = viral_called v.name first; holds = viral_called v.name holds; fails = viral_called v.name fails }

-- the number in the branch that is chosen
abbrev pub chosen_place : Bool → ViralPlaces → Option ℕ
chosen_place true places = places.holds
chosen_place false places = places.fails

-- the value with a number that may be there
abbrev pub value_with : List Value → Option ℕ → Option Value
value_with values place = option_and_then (slice_get values) place

-- what comes of the values at the places, in the condition's point and in that of the branch
abbrev pub value_of_places : Bool → List Value → List Value → ViralPlaces → Value
value_of_places truth own chosen places = one_or_both (codes_of places.codes) (value_with own places.own) (value_with chosen (chosen_place truth places))

-- ---- points

-- the key and the other values of the point that is chosen; a scalar has none
abbrev pub chosen_entry : Option (Arc Point Global) → List Value × List Value
chosen_entry point = option_map_or entry_of point ([], [])

-- all values of a point
abbrev pub all_of : List Value × List Value → List Value
all_of point = point.0 ++ point.1

-- what was found at this key is what the condition's point and that of the branch make there
abbrev pub IsMade : ChoiceOn → Bool → List Value → List Value → List Value × List Value → Evaluation → Type 0
IsMade c truth key own point found = IsEvaluation key (is_none (chosen_values c truth own point)) (chosen_values c truth own point) found

-- ---- plans

-- The conditional is well typed, and this is what its structures tell.
pub record IsPlan (c : ChoiceOn) (keys : List KeyNumbers) (test : Option ℕ) (virals : List ViralPlaces) : Type 0 where
  pub typed : IsTypedChoice c
  pub keys_are : keys ≡ map (key_numbers (condition c)) c.operands
  pub test_is : test ≡ position (has_role Measure) (condition c)
  pub virals_are : virals ≡ map (places_of (condition c) (chosen_structure c true) (chosen_structure c false)) (components.virals c.structure)
