use Rattle.std.proofs.Common.{◌≡◌, drop}
use Rattle.operator_faults.specs.Calls.{names_scalar}
use Rattle.operator_faults.proofs.calls.names_scalar.Given as goal

abbrev pub invariant-loop-i : goal.invariant-loop-i
invariant-loop-i l = names_scalar l.named 0 l.params ≡ names_scalar l.named l.i (drop l.i l.params)
