-- What holds of analytic operators.
use Rattle.std.specs.Prelude.{◌≡◌, Bool, List, Ok, All}
use Rattle.vtl_values.specs.declared.kind.Kind.{Kind}
use Rattle.vtl_values.specs.declared.place.Place.{Place}
use Rattle.vtl_values.specs.declared.structure.Component.{Component}
use Rattle.vtl_values.specs.Structures.{IsStructure}
use Rattle.vtl_syntax.specs.declared.expr.Over.{Over}
use Rattle.data_set_trees.specs.clauses.Frames.{frame_of}
use Rattle.data_set_trees.specs.declared.windows.analytic.AnalyticItem.{AnalyticItem}
use Rattle.data_set_trees.specs.declared.windows.analytic.AnalyticMeasure.{AnalyticMeasure}
use Rattle.data_set_trees.specs.declared.windows.analytic.CheckedWindow.{CheckedWindow}
use Rattle.data_set_trees.specs.windows.Results.{after}
use Rattle.data_set_trees.specs.windows.Windows.{IsItemOf, calc_checked, measures_typed}

-- after a `calc` that typing gives there is a structure
abbrev pub CalcGivesStructures : Type 0
CalcGivesStructures = (place : Place) (items : List AnalyticItem) (components : List Component) (w : CheckedWindow) → IsStructure components
    → All (IsItemOf (frame_of components)) items → calc_checked place items (frame_of components) ≡ Ok w → IsStructure (after w (frame_of components)).components

-- and so there is where an operator works on each measure
abbrev pub MeasuresGiveStructures : Type 0
MeasuresGiveStructures = (place : Place) (components : List Component) (over : Over) (takes : List Kind) (stated within : Bool) (items : List AnalyticMeasure) (w : CheckedWindow) → IsStructure components
    → measures_typed place components over takes stated within items ≡ Ok w → IsStructure (after w (frame_of components)).components
