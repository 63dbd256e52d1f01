-- What holds of rulesets on data sets.
use Rattle.std.specs.Prelude.{◌≡◌, ℕ, List, Option, Ok}
use Rattle.vtl_values.specs.declared.place.Place.{Place}
use Rattle.vtl_values.specs.declared.structure.Component.{Component}
use Rattle.vtl_values.specs.Structures.{IsStructure}
use Rattle.vtl_syntax.specs.declared.ruleset.DatapointRules.{DatapointRules}
use Rattle.vtl_syntax.specs.declared.ruleset.HierarchyRules.{HierarchyRules}
use Rattle.vtl_syntax.specs.declared.words.CheckInput.{CheckInput}
use Rattle.vtl_syntax.specs.declared.words.HierarchyInput.{HierarchyInput}
use Rattle.vtl_syntax.specs.declared.words.HierarchyOutput.{HierarchyOutput}
use Rattle.vtl_syntax.specs.declared.words.Mode.{Mode}
use Rattle.vtl_syntax.specs.declared.words.RowsOutput.{RowsOutput}
use Rattle.data_set_trees.specs.declared.rules.rules.CheckedDatapoint.{CheckedDatapoint}
use Rattle.data_set_trees.specs.declared.rules.rules.CheckedHierarchy.{CheckedHierarchy}
use Rattle.data_set_trees.specs.rules.Datapoints as datapoints
use Rattle.data_set_trees.specs.rules.Datapoints.{datapoint_checked}
use Rattle.data_set_trees.specs.rules.Hierarchies as hierarchies
use Rattle.data_set_trees.specs.rules.Hierarchies.{checked_checked, computed_checked}

-- what typing gives of `check_datapoint` leaves a structure of one
abbrev pub DatapointsGiveStructures : Type 0
DatapointsGiveStructures = (r : DatapointRules) (stated : Option RowsOutput) (place : Place) (components : List Component) (d : CheckedDatapoint) → IsStructure components
    → datapoint_checked r stated place components ≡ Ok d → IsStructure (datapoints.after d components)

-- and so do `hierarchy` and `check_hierarchy`
pub record HierarchiesGiveStructures : Type 0 where
  pub computed : (r : HierarchyRules) (stated : Option (List ℕ)) (mode : Option Mode) (i : Option HierarchyInput) (o : Option HierarchyOutput) (place : Place) (components : List Component) (h : CheckedHierarchy) → IsStructure components
      → computed_checked r stated mode i o place components ≡ Ok h → IsStructure (hierarchies.after h components)
  pub checked : (r : HierarchyRules) (stated : Option (List ℕ)) (mode : Option Mode) (i : Option CheckInput) (o : Option RowsOutput) (place : Place) (components : List Component) (h : CheckedHierarchy) → IsStructure components
      → checked_checked r stated mode i o place components ≡ Ok h → IsStructure (hierarchies.after h components)
