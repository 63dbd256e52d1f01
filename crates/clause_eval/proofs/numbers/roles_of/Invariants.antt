use Rattle.std.proofs.Common.{◌≡◌, map, take}
use Rattle.clause_eval.proofs.numbers.roles_of.Given as goal

abbrev pub invariant-loop-component : goal.invariant-loop-component
invariant-loop-component l = l.roles ≡ map (λ c. c.role) (take l.component-index l.components)
