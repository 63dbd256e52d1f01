use Rattle.std.proofs.Common.{◌≡◌, map, take}
use Rattle.operator_faults.specs.Sketches.{of_operator}
use Rattle.operator_faults.proofs.sketch.bodies.Given as goal

abbrev pub invariant-loop-operator : goal.invariant-loop-operator
invariant-loop-operator l = l.outlines ≡ map of_operator (take l.operator-index l.operators)
