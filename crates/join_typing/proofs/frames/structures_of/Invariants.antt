use Rattle.std.proofs.Common.{◌≡◌, ◌++◌, map, drop}
use Rattle.data_set_trees.specs.Joins.{structures_of}
use Rattle.join_typing.specs.Joining.{aliased}
use Rattle.join_typing.proofs.frames.structures_of.Given as goal

abbrev pub invariant-loop-operand : goal.invariant-loop-operand
invariant-loop-operand l = structures_of (map aliased l.operands) ≡ l.all ++ structures_of (map aliased (drop l.operand-index l.operands))
