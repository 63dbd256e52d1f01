use Rattle.std.proofs.Common.{◌≡◌, ◌++◌, drop}
use Rattle.std.specs.Prelude.{filter_map}
use Rattle.data_set_trees.specs.clauses.Clauses.{sub_checked}
use Rattle.clause_typing.proofs.sub.all_checked.Given as goal

abbrev pub invariant-loop-item : goal.invariant-loop-item
invariant-loop-item l = filter_map (sub_checked l.frame) l.items ≡ l.all ++ filter_map (sub_checked l.frame) (drop l.item-index l.items)
