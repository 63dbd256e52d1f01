-- The structures of results.
use Rattle.std.specs.Prelude.{List, map}
use Rattle.vtl_values.specs.declared.place.Place.{Place}
use Rattle.vtl_values.specs.declared.structure.Component.{Component}
use Rattle.data_set_trees.specs.declared.clauses.clause.CheckedClause.{CheckedClause}
use Rattle.data_set_trees.specs.clauses.Frames.{frame_of}
use Rattle.data_set_trees.specs.clauses.After.{after}
use Rattle.data_set_trees.specs.declared.operand.DataSet.{DataSet}
use Rattle.data_set_trees.specs.declared.operand.Operand.{Operand}
use Rattle.data_set_trees.specs.declared.tree.DataSetNode.{roll-DataSetNode}
use Rattle.data_set_trees.specs.declared.tree.DataSetOperator.{DataSetOperator}
use Rattle.data_set_trees.specs.declared.tree.DataSetTree.{DataSetTree}
use Rattle.data_set_trees.specs.declared.tree.DataSetTree.TheVariants as tree
use Rattle.data_set_trees.specs.Components.{unlisted}
use Rattle.data_set_trees.specs.Trees.{data_sets}

-- what a clause leaves of a structure
abbrev pub structure_after : CheckedClause → List Component → List Component
structure_after c s = map unlisted (after c (frame_of s)).components

-- the structures of the data sets among operands
abbrev pub structures_of : List Operand → List (List Component)
structures_of operands = map (λ (d : DataSet). d.structure) (data_sets operands)

-- the operator at its place on operands by parts
abbrev pub node_of : DataSetOperator → Place → List DataSetTree → List (List Component) → List Component → DataSet
node_of o place trees structures structure =
    record {
      tree = tree.Operator (roll-DataSetNode (record { operator = o; place = place; children = trees; operands = structures; structure = structure }));
      structure = structure;
    }
