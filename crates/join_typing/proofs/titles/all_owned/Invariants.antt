use Rattle.std.proofs.Common.{◌≡◌, ◌++◌, map, drop}
use Rattle.std.specs.List.{filter, flat_map}
use Rattle.data_set_trees.specs.clauses.Frames.{has_role}
use Rattle.data_set_trees.specs.Joins.{owned}
use Rattle.join_typing.specs.Joining.{aliased}
use Rattle.join_typing.proofs.titles.all_owned.Given as goal

abbrev pub invariant-loop-operand : goal.invariant-loop-operand
invariant-loop-operand l = flat_map (owned (filter (has_role l.role))) (map aliased l.operands) ≡ l.all ++ flat_map (owned (filter (has_role l.role))) (map aliased (drop l.operand-index l.operands))
