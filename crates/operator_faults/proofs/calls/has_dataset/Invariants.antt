use Rattle.std.proofs.Common.{◌≡◌, drop}
use Rattle.operator_faults.specs.Calls.{has_dataset}
use Rattle.operator_faults.proofs.calls.has_dataset.Given as goal

abbrev pub invariant-loop-param : goal.invariant-loop-param
invariant-loop-param l = has_dataset l.params ≡ has_dataset (drop l.param-index l.params)
