-- Which scalar operators on two data sets are well typed (docs/language.md, "Structures of results").
use Rattle.std.specs.Prelude.{List}
use Rattle.vtl_values.specs.declared.structure.Component.{Component}
use Rattle.vtl_values.specs.Structures.{IsStructure}
use Rattle.data_set_trees.specs.declared.clauses.clause.CheckedMeasure.{CheckedMeasure}
use Rattle.data_set_trees.specs.checked.Operators.{IsPairOf}
use Rattle.operator_meaning.specs.pairs.Pairs.{PairOn}

-- a pair on operands of these structures, with a result of that one
abbrev pub pair_on : List CheckedMeasure → List Component → List Component → List Component → PairOn
pair_on measures left right structure = record { measures = measures; left = left; right = right; structure = structure }

-- The operands and the result have structures, and typing gives that one for these.
pub record IsTypedPair (p : PairOn) : Type 0 where
  pub left_is : IsStructure p.left
  pub right_is : IsStructure p.right
  pub structure_is : IsStructure p.structure
  pub pair : IsPairOf p.measures p.left p.right p.structure
