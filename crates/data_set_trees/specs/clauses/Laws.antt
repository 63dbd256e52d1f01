-- What holds of frames after clauses.
use Rattle.std.specs.Prelude.{◌≡◌, ◌≢◌, ℕ, Bool, true, List, Ok, All, AllPairs}
use Rattle.vtl_values.specs.declared.kind.Role.TheVariants.{Viral}
use Rattle.vtl_values.specs.declared.structure.Codes.TheVariants.{Any}
use Rattle.vtl_values.specs.declared.place.Place.{Place}
use Rattle.vtl_values.specs.declared.structure.Component.{Component}
use Rattle.vtl_values.specs.Structures.{IsStructure, FitsCodes}
use Rattle.vtl_syntax.specs.declared.expr.Rename.{Rename}
use Rattle.data_set_trees.specs.declared.clauses.frame.Frame.{Frame}
use Rattle.data_set_trees.specs.declared.clauses.clause.CheckedClause.{CheckedClause}
use Rattle.data_set_trees.specs.declared.clauses.clause.CheckedClause.TheVariants.{Measures}
use Rattle.data_set_trees.specs.declared.clauses.clause.CheckedItem.{CheckedItem}
use Rattle.data_set_trees.specs.declared.clauses.clause.CheckedMeasure.{CheckedMeasure}
use Rattle.data_set_trees.specs.clauses.Frames.{frame_of, kept, by_role}
use Rattle.data_set_trees.specs.clauses.After.{always_stays, after}
use Rattle.data_set_trees.specs.clauses.Clauses.{IsItemOf, calc_typed, rename_typed, unpivot_typed}

-- what a clause leaves of a structure, where it only takes components away, is a structure
abbrev pub LeavesStructures : Type 0
LeavesStructures = (passes : ℕ → Component → Bool) (frame : Frame) → IsStructure frame.components → IsStructure (kept passes frame).components

-- components that are a structure, but for their order
pub record FitTogether (components : List Component) : Type 0 where
  pub names_differ : AllPairs (λ a b. a.name ≢ b.name) components
  pub viral_listed : All (λ c. c.role ≡ Viral → c.codes ≢ Any) components
  pub codes_fit : All (λ c. FitsCodes c.kind c.codes) components

-- by role they are a structure
abbrev pub OrdersStructures : Type 0
OrdersStructures = (frame : Frame) → FitTogether frame.components → IsStructure (by_role frame).components

-- ---- clauses that make or change components, on a data set of a structure

-- after a `calc` that typing gives there is a structure
abbrev pub CalcGivesStructures : Type 0
CalcGivesStructures = (place : Place) (items : List CheckedItem) (components : List Component) (c : CheckedClause) → IsStructure components
    → All (IsItemOf (frame_of components)) items → calc_typed place items (frame_of components) ≡ Ok c → IsStructure (after c (frame_of components)).components

-- after a `rename`
abbrev pub RenameGivesStructures : Type 0
RenameGivesStructures = (place : Place) (renames : List Rename) (components : List Component) (c : CheckedClause) → IsStructure components
    → rename_typed place renames (frame_of components) ≡ Ok c → IsStructure (after c (frame_of components)).components

-- and after an `unpivot`
abbrev pub UnpivotGivesStructures : Type 0
UnpivotGivesStructures = (place : Place) (identifier measure : List ℕ) (components : List Component) (c : CheckedClause) → IsStructure components
    → unpivot_typed place identifier measure (frame_of components) ≡ Ok c → IsStructure (after c (frame_of components)).components

-- measures whose names differ from each other and from those of what stays
pub record StandApart (items : List CheckedMeasure) (components : List Component) : Type 0 where
  pub names_differ : AllPairs (λ a b. a.name ≢ b.name) items
  pub names_free : All (λ i. All (λ c. always_stays c ≡ true → c.name ≢ i.name) components) items

-- after such measures there is one
abbrev pub MeasuresGiveStructures : Type 0
MeasuresGiveStructures = (items : List CheckedMeasure) (components : List Component) → IsStructure components
    → StandApart items components → IsStructure (after (Measures items) (frame_of components)).components
