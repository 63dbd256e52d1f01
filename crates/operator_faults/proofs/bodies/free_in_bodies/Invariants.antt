use Rattle.std.proofs.Common.{◌≡◌, drop}
use Rattle.operator_faults.specs.Bodies.{free_in_bodies}
use Rattle.operator_faults.proofs.bodies.free_in_bodies.Given as goal

abbrev pub invariant-loop-i : goal.invariant-loop-i
invariant-loop-i l = free_in_bodies l.bodies 0 l.operators ≡ free_in_bodies l.bodies l.i (drop l.i l.operators)
