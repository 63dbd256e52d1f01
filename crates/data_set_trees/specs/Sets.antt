-- Set operators (docs/language.md, "Structures of results").
use Rattle.std.specs.Prelude.{List, [], ◌∷◌, map, Option, Some, None, Ok}
use Rattle.std.specs.List.{list_all}
use Rattle.std.specs.Option.{option_map}
use Rattle.vtl_values.specs.declared.place.Place.{Place}
use Rattle.scalar_trees.specs.declared.typing.stop.Fault.TheVariants.{WrongStructure}
use Rattle.scalar_trees.specs.typing.Steps.{◌>>=◌, demanded, or_refused, refused}
use Rattle.data_set_trees.specs.declared.operand.DataSet.{DataSet}
use Rattle.data_set_trees.specs.declared.operand.Operand.{Operand}
use Rattle.data_set_trees.specs.declared.operand.Operand.TheVariants as operand
use Rattle.data_set_trees.specs.declared.tree.SetOperation.{SetOperation}
use Rattle.data_set_trees.specs.declared.tree.DataSetOperator.TheVariants as operator
use Rattle.data_set_trees.specs.Components.{are_alike, unlisted}
use Rattle.data_set_trees.specs.Trees.{SetAnswer, applied}

-- the operands, where all are data sets
abbrev pub all_data_sets : List Operand → Option (List DataSet)
all_data_sets [] = Some []
all_data_sets (operand.Scalar t ∷ os) = None
all_data_sets (operand.DataSet d ∷ os) = option_map (λ ds. d ∷ ds) (all_data_sets os)

-- the others are of the first one's structure, whose order the result has
abbrev pub set_of : SetOperation → Place → List DataSet → SetAnswer
set_of o place [] = refused WrongStructure place
set_of o place (d ∷ ds) =
    demanded (list_all (λ (e : DataSet). are_alike d.structure e.structure) ds) WrongStructure place
    >>= (λ alike. Ok (operand.DataSet (applied (operator.Set o) place (d ∷ ds) (map unlisted d.structure))))

abbrev pub sets_typed : SetOperation → Place → List Operand → SetAnswer
sets_typed o place operands = or_refused (all_data_sets operands) WrongStructure place >>= set_of o place
