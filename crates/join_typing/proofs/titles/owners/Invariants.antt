use Rattle.std.proofs.Common.{◌≡◌, ◌++◌, map, drop}
use Rattle.data_set_trees.specs.Joins.{owners}
use Rattle.join_typing.specs.Joining.{aliased}
use Rattle.join_typing.proofs.titles.owners.Given as goal

abbrev pub invariant-loop-operand : goal.invariant-loop-operand
invariant-loop-operand l = owners (map aliased l.operands) l.component ≡ l.found ++ owners (map aliased (drop l.operand-index l.operands)) l.component
