use Rattle.std.proofs.Common.{◌≡◌, map, take}
use Rattle.data_set_trees.specs.Components.{identifiers}
use Rattle.operator_meaning.specs.joins.Joins.{numbers_among}
use Rattle.join_eval.proofs.sides.each_places.Given as goal

abbrev pub invariant-loop-operand : goal.invariant-loop-operand
invariant-loop-operand l = l.all ≡ map (λ s. numbers_among l.keys (identifiers s)) (take l.operand-index l.operands)
