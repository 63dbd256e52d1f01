use Rattle.std.proofs.Common.{◌≡◌, ◌++◌, map, drop}
use Rattle.data_set_trees.specs.Components.{unlisted}
use Rattle.data_set_parts.proofs.joins.push_unlisted.Given as goal

abbrev pub invariant-loop-component : goal.invariant-loop-component
invariant-loop-component l = l.fn.all ++ map unlisted l.components ≡ l.all ++ map unlisted (drop l.component-index l.components)
