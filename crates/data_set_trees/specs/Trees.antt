-- Operators on data sets with their operands.
use Rattle.std.specs.Prelude.{List, [], ◌∷◌, map}
use Rattle.vtl_values.specs.declared.place.Place.{Place}
use Rattle.vtl_values.specs.declared.structure.Component.{Component}
use Rattle.scalar_trees.specs.declared.typing.stop.Refusal.{Refusal}
use Rattle.data_set_trees.specs.declared.clauses.clause.CheckedClause.{CheckedClause}
use Rattle.data_set_trees.specs.clauses.Frames.{frame_of}
use Rattle.data_set_trees.specs.clauses.After.{after}
use Rattle.std.specs.Prelude.{Result}
use Rattle.data_set_trees.specs.declared.operand.DataSet.{DataSet}
use Rattle.data_set_trees.specs.declared.operand.Operand.{Operand}
use Rattle.data_set_trees.specs.declared.operand.Operand.TheVariants as operand
use Rattle.data_set_trees.specs.declared.tree.DataSetNode.{roll-DataSetNode}
use Rattle.data_set_trees.specs.declared.tree.DataSetTree.TheVariants as tree
use Rattle.data_set_trees.specs.declared.tree.DataSetOperator.{DataSetOperator}
use Rattle.data_set_trees.specs.declared.tree.DataSetOperator.TheVariants as operator
use Rattle.data_set_trees.specs.Components.{unlisted}

-- an operand, or the first fault
abbrev pub SetAnswer : Type 0
SetAnswer = Result Operand Refusal

-- the operator at its place on these data sets, with the structure of its result
abbrev pub applied : DataSetOperator → Place → List DataSet → List Component → DataSet
applied o place operands structure =
    record {
      tree = tree.Operator (roll-DataSetNode (record {
        operator = o;
        place = place;
        children = map (λ (d : DataSet). d.tree) operands;
        operands = map (λ (d : DataSet). d.structure) operands;
        structure = structure;
      }));
      structure = structure;
    }

-- the clause on a data set
abbrev pub with_clause : CheckedClause → Place → DataSet → DataSet
with_clause c place d = applied (operator.Clause c) place (d ∷ []) (map unlisted (after c (frame_of d.structure)).components)

-- the data sets among operands, in their order
abbrev pub data_sets : List Operand → List DataSet
data_sets [] = []
data_sets (operand.Scalar t ∷ os) = data_sets os
data_sets (operand.DataSet d ∷ os) = d ∷ data_sets os
