-- Conditionals on data sets, where they are well typed (docs/language.md, "Structures of results").
use Rattle.std.specs.Prelude.{◌≡◌, ◌&&◌, ◌||◌, ◌++◌, Bool, true, List, [], ◌∷◌, map, Option, unwrap_or, is_some, is_none}
use Rattle.std.specs.List.{list_all}
use Rattle.std.specs.Option.{option_to_list}
use Rattle.vtl_values.specs.declared.kind.Kind.{Kind}
use Rattle.vtl_values.specs.declared.kind.Kind.TheVariants.{Truth}
use Rattle.vtl_values.specs.declared.kind.Role.TheVariants as role
use Rattle.vtl_values.specs.declared.structure.Component.{Component}
use Rattle.scalar_trees.specs.declared.tree.CheckedExpr.{CheckedExpr}
use Rattle.data_set_trees.specs.clauses.Frames.{frame_of}
use Rattle.data_set_trees.specs.clauses.After.{made}
use Rattle.data_set_trees.specs.clauses.WellTyped.{is_of}
use Rattle.data_set_trees.specs.declared.measure.Measure.{Measure}
use Rattle.data_set_trees.specs.declared.tree.Branch.{Branch}
use Rattle.data_set_trees.specs.declared.tree.Branch.TheVariants as branch
use Rattle.data_set_trees.specs.declared.tree.ChoiceMeasure.{ChoiceMeasure}
use Rattle.data_set_trees.specs.Components.{identifiers, virals, measures, further, include, virals_agree, are_alike, unlisted}

-- ---- branches

-- a data set has a structure, a scalar has none
abbrev pub is_branch : Branch → Option (List Component) → Bool
is_branch branch.DataSet structure = is_some structure
is_branch branch.Scalar structure = is_none structure

-- the structures of the branches that are data sets
abbrev pub branches : Option (List Component) → Option (List Component) → List (List Component)
branches holds fails = option_to_list holds ++ option_to_list fails

-- a value of this kind in a branch, which may name the components of a data set; with a scalar there are none
abbrev pub is_of_branch : Option (List Component) → Kind → CheckedExpr → Bool
is_of_branch structure kind value = is_of (frame_of (unwrap_or structure [])) kind value

-- a branch's identifiers are those of the condition, and their viral attributes agree
abbrev pub belongs_to : List Component → List Component → Bool
belongs_to condition structure = (include (identifiers condition) (identifiers structure) && include (identifiers structure) (identifiers condition)) && virals_agree condition structure

-- of one structure
abbrev pub are_of_one : List (List Component) → Bool
are_of_one [] = true
are_of_one (s ∷ ss) = list_all (are_alike s) ss

-- ---- results

-- the viral attributes of these structures, each where it stands first, after those that stand before
abbrev pub all_virals : List Component → List (List Component) → List Component
all_virals before [] = before
all_virals before (s ∷ ss) = all_virals (before ++ further before (virals s)) ss

-- the condition's identifiers, these measures, and the viral attributes of the condition and of the branches
abbrev pub chosen : List ChoiceMeasure → List Component → List (List Component) → List Component
chosen items condition structures =
    (map unlisted (identifiers condition) ++ map (λ (m : ChoiceMeasure). made role.Measure m.kind m.name) items) ++ all_virals [] (condition ∷ structures)

-- The condition has one measure, a boolean. A branch is a data set, and those that are belong to the condition and are of
-- one structure. Each measure of the result is of its kind in both branches.
pub record IsChoiceOf (items : List ChoiceMeasure) (condition : List Component) (holds fails : Option (List Component)) (structure : List Component) : Type 0 where
  pub test : Measure
  pub one : measures condition ≡ test ∷ []
  pub truth : test.kind ≡ Truth
  pub some : (is_some holds || is_some fails) ≡ true
  pub belong : list_all (belongs_to condition) (branches holds fails) ≡ true
  pub alike : are_of_one (branches holds fails) ≡ true
  pub of_kind : list_all (λ m. is_of_branch holds m.kind m.holds && is_of_branch fails m.kind m.fails) items ≡ true
  pub is_chosen : structure ≡ chosen items condition (branches holds fails)
