use Rattle.std.proofs.Common.{◌≡◌, drop}
use Rattle.operator_faults.specs.Names.{parameter_twice}
use Rattle.operator_faults.proofs.names.parameter_twice.Given as goal

abbrev pub invariant-loop-operator : goal.invariant-loop-operator
invariant-loop-operator l = parameter_twice l.operators ≡ parameter_twice (drop l.operator-index l.operators)
