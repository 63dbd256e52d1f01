use Rattle.std.proofs.Common.{◌≡◌, take}
use Rattle.operator_faults.specs.Recursions.{names_of}
use Rattle.operator_faults.proofs.graph.names_of.Given as goal

abbrev pub invariant-loop-number : goal.invariant-loop-number
invariant-loop-number l = l.names ≡ names_of l.operators (take l.number-index l.numbers)
