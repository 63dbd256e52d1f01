use Rattle.std.proofs.Common.{◌≡◌, take}
use Rattle.data_set_trees.specs.checked.Scripts.{once_each}
use Rattle.transform_nodes.proofs.build.once_each.Given as goal

abbrev pub invariant-loop-name : goal.invariant-loop-name
invariant-loop-name l = l.sources.items ≡ once_each (take l.name-index l.names)
