use Rattle.std.proofs.Common.{◌≡◌, map, take}
use Rattle.data_set_trees.specs.Components.{unlisted}
use Rattle.data_set_parts.proofs.results.listed_unlisted.Given as goal

abbrev pub invariant-loop-component : goal.invariant-loop-component
invariant-loop-component l = l.list.items ≡ map unlisted (take l.component-index l.components)
