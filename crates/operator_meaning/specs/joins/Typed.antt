-- Which joins are well typed (docs/language.md, "Structures of results").
use Rattle.std.specs.Prelude.{All}
use Rattle.vtl_values.specs.Structures.{IsStructure}
use Rattle.data_set_trees.specs.checked.Operators.{IsTypedJoin}
use Rattle.operator_meaning.specs.joins.Joins.{JoinOn}

-- The operands and the result have structures, and typing gives that one for these.
pub record IsTypedJoinOn (j : JoinOn) : Type 0 where
  pub structures : All IsStructure j.operands
  pub structure_is : IsStructure j.structure
  pub join : IsTypedJoin j.function j.operands j.structure
