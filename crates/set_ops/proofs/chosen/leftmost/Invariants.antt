use Rattle.std.proofs.Common.{◌≡◌, drop, map}
use Rattle.data_model.specs.Maps.{leftmost}
use Rattle.point_sets.specs.Changes.{values_of}
use Rattle.set_ops.specs.Readings.{in_order}
use Rattle.set_ops.proofs.chosen.leftmost.Given as goal

-- no operand so far has a point
abbrev pub invariant-loop-i : goal.invariant-loop-i
invariant-loop-i l = leftmost (in_order l.readings (map values_of l.points)) ≡ leftmost (in_order (drop l.i l.readings) (map values_of (drop l.i l.points)))
