-- `if c then a else b` (docs/language.md, "Structures of results").
use Rattle.std.specs.Prelude.{ℕ, Bool, true, false, ◌&&◌, ◌++◌, List, [], ◌∷◌, map, find, length, nat_eq, Option, Some, is_some, option_map, Result, Ok}
use Rattle.std.specs.List.{list_all}
use Rattle.vtl_values.specs.declared.kind.Kind.{Kind}
use Rattle.vtl_values.specs.declared.kind.Kind.TheVariants.{Truth}
use Rattle.vtl_values.specs.declared.kind.Role.TheVariants as role
use Rattle.vtl_values.specs.declared.place.Place.{Place}
use Rattle.vtl_values.specs.declared.structure.Component.{Component}
use Rattle.scalar_trees.specs.Kinds.{ANY, agreed}
use Rattle.scalar_trees.specs.declared.typing.stop.Fault.TheVariants.{WrongType, WrongStructure}
use Rattle.scalar_trees.specs.declared.typing.stop.Refusal.{Refusal}
use Rattle.scalar_trees.specs.declared.typing.typed.Typed.{Typed}
use Rattle.scalar_trees.specs.typing.Scalars.{agreeing, if_typed}
use Rattle.scalar_trees.specs.typing.Steps.{◌>>=◌}
use Rattle.data_set_trees.specs.clauses.After.{made}
use Rattle.data_set_trees.specs.clauses.Clauses.{demands}
use Rattle.data_set_trees.specs.declared.measure.Measure.{Measure}
use Rattle.data_set_trees.specs.declared.operand.DataSet.{DataSet}
use Rattle.data_set_trees.specs.declared.operand.Operand.{Operand}
use Rattle.data_set_trees.specs.declared.operand.Operand.TheVariants as operand
use Rattle.data_set_trees.specs.declared.tree.Branch.{Branch}
use Rattle.data_set_trees.specs.declared.tree.Branch.TheVariants as branch
use Rattle.data_set_trees.specs.declared.tree.ChoiceMeasure.{ChoiceMeasure}
use Rattle.data_set_trees.specs.declared.tree.DataSetOperator.TheVariants as operator
use Rattle.data_set_trees.specs.Components.{identifiers, virals, measures, further, include, virals_agree, are_alike, unlisted}
use Rattle.data_set_trees.specs.Trees.{SetAnswer, applied, data_sets}
use Rattle.data_set_trees.specs.Lifted.{slot_of, stands}
use Rattle.data_set_trees.specs.Pairs.{is_called, result_fits}

abbrev pub branch_of : Operand → Branch
branch_of (operand.Scalar t) = branch.Scalar
branch_of (operand.DataSet d) = branch.DataSet

-- ---- kinds

-- it can stand where a boolean is wanted
abbrev pub is_truth : Option Kind → Bool
is_truth kind = is_some (agreed (Truth ∷ []) (kind ∷ []))

-- the condition is a boolean, or each of its measures is one
abbrev pub condition_fits : Operand → Bool
condition_fits (operand.Scalar t) = is_truth t.kind
condition_fits (operand.DataSet d) = list_all (λ m. is_truth (Some m.kind)) (measures d.structure)

-- a scalar agrees with each of these measures
abbrev pub scalar_fits : Typed → List Measure → Bool
scalar_fits t ms = list_all (λ m. is_some (agreed ANY (Some m.kind ∷ t.kind ∷ []))) ms

-- two scalars agree, and a scalar with each measure of the other branch; two data sets are compared by their structures
abbrev pub branches_fit : Operand → Operand → Bool
branches_fit (operand.Scalar a) (operand.Scalar b) = is_some (agreed ANY (a.kind ∷ b.kind ∷ []))
branches_fit (operand.Scalar a) (operand.DataSet e) = scalar_fits a (measures e.structure)
branches_fit (operand.DataSet d) (operand.Scalar b) = scalar_fits b (measures d.structure)
branches_fit (operand.DataSet d) (operand.DataSet e) = true

-- ---- structures

-- its identifiers are those of the condition, and their viral attributes agree
abbrev pub belongs_to : DataSet → DataSet → Bool
belongs_to c d = (include (identifiers c.structure) (identifiers d.structure) && include (identifiers d.structure) (identifiers c.structure)) && virals_agree c.structure d.structure

-- of one structure
abbrev pub are_of_one : List DataSet → Bool
are_of_one [] = true
are_of_one (d ∷ ds) = list_all (λ (e : DataSet). are_alike d.structure e.structure) ds

-- the condition is a data set of one measure, and so is a branch; they belong to the condition, and are of one structure
abbrev pub structures_fit : Operand → List DataSet → Bool
structures_fit (operand.Scalar t) branches = false
structures_fit (operand.DataSet c) [] = false
structures_fit (operand.DataSet c) branches = (nat_eq (length (measures c.structure)) 1 && list_all (belongs_to c) branches) && are_of_one branches

-- ---- the result

-- what a branch has of a measure: the value of its measure of that name, or the scalar
abbrev pub in_branch : List ℕ → Operand → Typed
in_branch name (operand.Scalar t) = t
in_branch name (operand.DataSet d) = stands (option_map slot_of (find (is_called name) (measures d.structure)))

abbrev pub choice_measure : Place → Operand → Operand → Measure → Result ChoiceMeasure Refusal
choice_measure place a b m = agreeing place ANY (in_branch m.name a) (in_branch m.name b) >>= (λ j. Ok (record { name = m.name; kind = j.kind; holds = j.left; fails = j.right }))

abbrev pub choice_measures : Place → Operand → Operand → List Measure → Result (List ChoiceMeasure) Refusal
choice_measures place a b [] = Ok []
choice_measures place a b (m ∷ ms) = choice_measure place a b m >>= (λ item. choice_measures place a b ms >>= (λ items. Ok (item ∷ items)))

-- the measures of the first branch that is a data set
abbrev pub first_measures : List DataSet → List Measure
first_measures [] = []
first_measures (d ∷ ds) = measures d.structure

-- the viral attributes of the data sets, each where it stands first
abbrev pub all_virals : List Component → List DataSet → List Component
all_virals before [] = before
all_virals before (d ∷ ds) = all_virals (before ++ further before (virals d.structure)) ds

abbrev pub choice_structure : List ChoiceMeasure → List DataSet → List Component → List Component
choice_structure items ds ids = (map unlisted ids ++ map (λ (m : ChoiceMeasure). made role.Measure m.kind m.name) items) ++ all_virals [] ds

abbrev pub chosen_ids : List DataSet → List Component
chosen_ids [] = []
chosen_ids (c ∷ ds) = identifiers c.structure

abbrev pub choice_on : Place → Operand → Operand → Operand → SetAnswer
choice_on place c a b =
    demands place ((condition_fits c && branches_fit a b, WrongType) ∷ (structures_fit c (data_sets (a ∷ b ∷ [])), WrongStructure) ∷ [])
    >>= (λ agree. choice_measures place a b (first_measures (data_sets (a ∷ b ∷ [])))
    >>= (λ items. result_fits place (choice_structure items ds (chosen_ids ds))
    >>= (λ fits. Ok (operand.DataSet (applied (operator.Choice (branch_of a) (branch_of b) items) place ds (choice_structure items ds (chosen_ids ds)))))))
  where
    ds : List DataSet
    ds = data_sets (c ∷ a ∷ b ∷ [])

-- of three scalars a scalar, and else a data set
abbrev pub choice_typed : Place → Operand → Operand → Operand → SetAnswer
choice_typed place (operand.Scalar c) (operand.Scalar a) (operand.Scalar b) = if_typed place c a b >>= (λ t. Ok (operand.Scalar t))
choice_typed place c a b = choice_on place c a b
