use Rattle.std.proofs.Common.{◌≡◌, map, take}
use Rattle.std.specs.Arc.{arc_value}
use Rattle.transform_nodes.specs.Runs.{planned}
use Rattle.transform_nodes.proofs.operate.plan_all.Given as goal

abbrev pub invariant-loop-i : goal.invariant-loop-i
invariant-loop-i l = l.patches.items ≡ take l.i (planned l.wants l.held (map arc_value l.news))
