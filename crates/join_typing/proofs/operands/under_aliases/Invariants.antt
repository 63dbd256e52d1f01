use Rattle.std.proofs.Common.{◌≡◌, ◌++◌, length, map, drop, option_map}
use Rattle.data_set_trees.specs.Joins.{all_aliased}
use Rattle.join_typing.specs.Joining.{aliased}
use Rattle.join_typing.proofs.operands.under_aliases.Given as goal

abbrev pub invariant-loop-i : goal.invariant-loop-i
invariant-loop-i l = record {
  as_many : length l.aliases ≡ length l.sets;
  value : all_aliased l.aliases l.sets ≡ option_map (λ os. map aliased l.found ++ os) (all_aliased (drop l.i l.aliases) (drop l.i l.sets));
}
