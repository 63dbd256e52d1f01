use Rattle.std.proofs.Common.{◌≡◌, map, take}
use Rattle.vtl_syntax.specs.declared.operator.Param.{Param}
use Rattle.defined_operators.specs.Uses.{stands_in}
use Rattle.defined_operators.proofs.uses.standing.Given as goal

abbrev pub invariant-loop-param : goal.invariant-loop-param
invariant-loop-param l = l.used ≡ map (λ (p : Param). stands_in p.name l.outline) (take l.param-index l.params)
