use Rattle.std.proofs.Common.{◌≡◌, take}
use Rattle.clause_eval.specs.Roles.{roles_after}
use Rattle.clause_eval.proofs.numbers.put_roles.Given as goal

abbrev pub invariant-loop-item : goal.invariant-loop-item
invariant-loop-item l = l.roles ≡ roles_after (take l.item-index l.items) l.fn.roles
