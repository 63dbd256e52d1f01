use Rattle.std.proofs.Common.{◌≡◌, drop}
use Rattle.operator_faults.specs.Calls.{operator_of}
use Rattle.operator_faults.proofs.calls.operator_of.Given as goal

abbrev pub invariant-loop-operator : goal.invariant-loop-operator
invariant-loop-operator l = operator_of l.operators l.name ≡ operator_of (drop l.operator-index l.operators) l.name
