-- Operators whose plans are known: a plan depends on the structures of the data sets and on nothing else of them, and not
-- on the place of the operator.
use Rattle.std.specs.Prelude.{◌≡◌, List, map, Ok}
use Rattle.vtl_values.specs.declared.place.Place.{Place}
use Rattle.vtl_values.specs.declared.structure.Component.{Component}
use Rattle.data_set_trees.specs.declared.form.Form.{Form}
use Rattle.data_set_trees.specs.declared.operand.DataSet.{DataSet}
use Rattle.data_set_trees.specs.declared.operand.Operand.{Operand}
use Rattle.data_set_trees.specs.declared.operand.Operand.TheVariants as operand
use Rattle.data_set_trees.specs.declared.tree.DataSetTree.TheVariants as tree
use Rattle.data_set_trees.specs.declared.tree.Source.TheVariants as source
use Rattle.data_set_typing.specs.declared.plan.Plan.{Plan}
use Rattle.data_set_typing.specs.Plans.{planned}

-- some data set of this structure
abbrev pub set_of : List Component → DataSet
set_of structure = record { tree = tree.Name (source.Input 0); structure = structure }

-- the operand, with some data set of the same structure in its place where it is one
abbrev pub by_structure : Operand → Operand
by_structure (operand.Scalar t) = operand.Scalar t
by_structure (operand.DataSet d) = operand.DataSet (set_of d.structure)

abbrev pub by_structures : List Operand → List Operand
by_structures = map by_structure

-- wherever the operator stands, this is what it comes to on these operands
abbrev pub IsPlanOf : Form → List Operand → Plan → Type 0
IsPlanOf form operands plan = (place : Place) → planned form place operands ≡ Ok plan
