-- Which operators `exists_in` are well typed (docs/language.md, "Structures of results").
use Rattle.std.specs.Prelude.{◌≡◌, true}
use Rattle.vtl_values.specs.Structures.{IsStructure}
use Rattle.data_set_trees.specs.Exists.{common_agree, exists_structure}
use Rattle.operator_meaning.specs.exists.Exists.{ExistsOn}

-- The operands and the result have structures, identifiers of one name are of one kind, and the result has the structure
-- that typing gives it.
pub record IsTypedExistsOn (e : ExistsOn) : Type 0 where
  pub left_is : IsStructure e.left
  pub right_is : IsStructure e.right
  pub structure_is : IsStructure e.structure
  pub kinds_agree : common_agree e.left e.right ≡ true
  pub is_first : e.structure ≡ exists_structure e.left
