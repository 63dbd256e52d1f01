use Rattle.std.proofs.Common.{◌≡◌, take}
use Rattle.defined_operators.proofs.copies.copy_params.Given as goal

abbrev pub invariant-loop-param : goal.invariant-loop-param
invariant-loop-param l = l.copy ≡ take l.param-index l.params
