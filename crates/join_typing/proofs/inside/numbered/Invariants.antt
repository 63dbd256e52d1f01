use Rattle.std.proofs.Common.{◌≡◌, ◌≤◌, ◌++◌, map, drop, length}
use Rattle.data_set_trees.specs.clauses.Clauses.{MOST_COMPONENTS}
use Rattle.data_set_trees.specs.Components.{unlisted}
use Rattle.data_set_trees.specs.Joins.{numbered}
use Rattle.join_typing.proofs.inside.numbered.Given as goal

abbrev pub invariant-loop-i : goal.invariant-loop-i
invariant-loop-i l = record {
  few : length l.components ≤ MOST_COMPONENTS;
  value : numbered 0 (map unlisted l.components) ≡ l.list.items ++ numbered l.i (map unlisted (drop l.i l.components));
}
