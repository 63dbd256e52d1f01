use Rattle.std.proofs.Common.{◌≡◌, ◌++◌, drop}
use Rattle.data_set_trees.specs.clauses.Frames.{numbers_from, numbers_of, has_role}
use Rattle.result_components.proofs.components.numbers_of.Given as goal

abbrev pub invariant-loop-i : goal.invariant-loop-i
invariant-loop-i l = numbers_of l.role l.components ≡ l.numbers ++ numbers_from (λ number. has_role l.role) l.i (drop l.i l.components)
