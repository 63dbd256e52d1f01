use Rattle.std.proofs.Common.{◌≡◌, ◌++◌, drop}
use Rattle.vtl_values.specs.declared.kind.Role.TheVariants.{Viral}
use Rattle.data_set_trees.specs.clauses.Frames.{has_role, numbers_from}
use Rattle.exists_ops.proofs.numbers.viral_numbers.Given as goal

abbrev pub invariant-loop-i : goal.invariant-loop-i
invariant-loop-i l = numbers_from (λ number. has_role Viral) 0 l.components ≡ l.numbers ++ numbers_from (λ number. has_role Viral) l.i (drop l.i l.components)
