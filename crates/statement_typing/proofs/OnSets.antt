-- What an operator on one data set is checked to be, from its parts.
use Rattle.std.proofs.Common.{◌≡◌, List, Result, Ok, ◌∙◌}
use Rattle.vtl_values.specs.declared.place.Place.{Place}
use Rattle.vtl_values.specs.declared.structure.Component.{Component}
use Rattle.scalar_trees.specs.declared.typing.stop.Refusal.{Refusal}
use Rattle.scalar_trees.specs.declared.typing.stop.TypeStop.{TypeStop}
use Rattle.scalar_trees.specs.typing.Steps.{◌>>=◌, Refuses}
use Rattle.operator_typing.proofs.Steps.{goes_on, stops_there, stops_after}
use Rattle.data_set_trees.specs.declared.operand.DataSet.{DataSet}
use Rattle.data_set_trees.specs.declared.operand.Operand.{Operand}
use Rattle.data_set_trees.specs.declared.operand.Operand.TheVariants as operand
use Rattle.data_set_trees.specs.declared.tree.DataSetOperator.{DataSetOperator}
use Rattle.data_set_trees.specs.Trees.{SetAnswer}
use Rattle.expression_rules.specs.OnSets.{data_set_of, on_set, with_operator}

module _ {X : Type 0} (checked : List Component → Result X Refusal) (of : X → DataSetOperator) (after : X → List Component → List Component) (place : Place) where
  abbrev made : DataSet → X → SetAnswer
  made d x = Ok (operand.DataSet (with_operator (of x) (after x) place d))

  abbrev next : DataSet → SetAnswer
  next d = checked d.structure >>= made d

  -- the operator that the components give
  pub given : (a : Operand) (d : DataSet) (x : X) → data_set_of place a ≡ Ok d → checked d.structure ≡ Ok x → on_set checked of after place a ≡ Ok (operand.DataSet (with_operator (of x) (after x) place d))
  given a d x is has = goes_on (data_set_of place a) next d is ∙ goes_on (checked d.structure) (made d) x has

  -- the fault that the components have
  pub faulty : (a : Operand) (d : DataSet) (stop : TypeStop) → data_set_of place a ≡ Ok d → Refuses (checked d.structure) stop → Refuses (on_set checked of after place a) stop
  faulty a d stop is why = stops_after (data_set_of place a) next d stop is (stops_there (checked d.structure) (made d) stop why)
