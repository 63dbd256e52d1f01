-- Data sets that fit (docs/language.md, "Data set operators").
use Rattle.std.specs.Prelude.{List, Option}
use Rattle.std.specs.List.{All}
use Rattle.vtl_values.specs.declared.structure.Component.{Component}
use Rattle.data_set_trees.specs.declared.operand.DataSet.{DataSet}
use Rattle.data_set_trees.specs.declared.tree.Source.{Source}
use Rattle.data_set_trees.specs.checked.Expressions.{expression_of}
use Rattle.data_set_trees.specs.checked.Operators.{TakesOperands}
use Rattle.data_set_trees.specs.checked.Scripts.{names_in}
use Rattle.data_set_trees.specs.checked.Typing.{Fits}

-- a data set whose operators take what their operands have and are well typed on them, and that names none but these
pub record IsFitting (structures : Source → Option (List Component)) (among : Source → Type 0) (d : DataSet) : Type 0 where
  pub fits : Fits TakesOperands structures (expression_of d.tree) d.structure
  pub named : All among (names_in (expression_of d.tree))
