use Rattle.std.proofs.Common.{◌≡◌, map, take}
use Rattle.defined_operators.specs.Uses.{used_params, uses_of}
use Rattle.defined_operators.proofs.uses.uses_after.Given as goal

abbrev pub invariant-loop-operator : goal.invariant-loop-operator
invariant-loop-operator l = l.uses ≡ map (used_params l.operators (uses_of l.operators l.level)) (take l.operator-index l.operators)
