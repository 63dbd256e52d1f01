-- Which conditionals on data sets are well typed (docs/language.md, "Structures of results").
use Rattle.std.specs.Prelude.{All}
use Rattle.vtl_values.specs.Structures.{IsStructure}
use Rattle.data_set_trees.specs.checked.Operators as operators
use Rattle.operator_meaning.specs.choices.Choices.{ChoiceOn}

-- The operands and the result have structures, and typing gives that one for these.
pub record IsTypedChoice (c : ChoiceOn) : Type 0 where
  pub structures : All IsStructure c.operands
  pub structure_is : IsStructure c.structure
  pub choice : operators.IsTypedChoice c.holds c.fails c.measures c.operands c.structure
