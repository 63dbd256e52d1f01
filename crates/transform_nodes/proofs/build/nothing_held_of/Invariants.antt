use Rattle.std.proofs.Common.{◌≡◌, map, take}
use Rattle.transform_nodes.specs.Building.{nothing_held}
use Rattle.transform_nodes.proofs.build.nothing_held_of.Given as goal

abbrev pub invariant-loop-want : goal.invariant-loop-want
invariant-loop-want l = l.held.items ≡ map nothing_held (take l.want-index l.wants)
