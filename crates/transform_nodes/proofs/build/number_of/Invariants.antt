use Rattle.std.proofs.Common.{◌≡◌, false, take}
use Rattle.transform_nodes.specs.Building.{is_among}
use Rattle.transform_nodes.proofs.build.number_of.Given as goal

abbrev pub invariant-loop-i : goal.invariant-loop-i
invariant-loop-i l = is_among (take l.i l.sources) l.name ≡ false
