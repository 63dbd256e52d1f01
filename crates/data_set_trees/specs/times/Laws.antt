-- What holds of operators on time series.
use Rattle.std.specs.Prelude.{List}
use Rattle.vtl_values.specs.declared.place.Place.{Place}
use Rattle.vtl_values.specs.declared.structure.Component.{Component}
use Rattle.vtl_values.specs.Structures.{IsStructure}
use Rattle.data_set_trees.specs.declared.times.time.CheckedTime.{CheckedTime}
use Rattle.data_set_trees.specs.times.Times.{GivesTime, after}

-- what typing gives leaves a structure of one
abbrev pub GivesStructures : Type 0
GivesStructures = (place : Place) (components : List Component) (t : CheckedTime) → IsStructure components → GivesTime place components t → IsStructure (after t components)
