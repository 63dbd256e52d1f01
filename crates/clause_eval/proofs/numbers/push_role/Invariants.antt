use Rattle.std.proofs.Common.{◌≡◌, ◌++◌, drop}
use Rattle.clause_eval.specs.Roles.{numbers_with}
use Rattle.clause_eval.proofs.numbers.push_role.Given as goal

abbrev pub invariant-loop-i : goal.invariant-loop-i
invariant-loop-i l = l.fn.numbers ++ numbers_with l.role 0 l.roles ≡ l.numbers ++ numbers_with l.role l.i (drop l.i l.roles)
