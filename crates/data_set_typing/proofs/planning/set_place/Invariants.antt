use Rattle.std.proofs.Common.{◌≡◌, ◌+◌, drop}
use Rattle.data_set_trees.specs.Lifted.{set_place}
use Rattle.data_set_typing.proofs.planning.set_place.Given as goal

abbrev pub invariant-loop-i : goal.invariant-loop-i
invariant-loop-i l = set_place l.operands ≡ l.i + set_place (drop l.i l.operands)
