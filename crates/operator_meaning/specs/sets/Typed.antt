-- Which set operators are well typed (docs/language.md, "Structures of results").
use Rattle.std.specs.Prelude.{All}
use Rattle.vtl_values.specs.Structures.{IsStructure}
use Rattle.data_set_trees.specs.checked.Operators as operators
use Rattle.operator_meaning.specs.sets.Sets.{SetOn}

-- The operands and the result have structures, and typing gives that one for these.
pub record IsTypedSet (s : SetOn) : Type 0 where
  pub structures : All IsStructure s.operands
  pub structure_is : IsStructure s.structure
  pub set : operators.IsTypedSet s.operands s.structure
