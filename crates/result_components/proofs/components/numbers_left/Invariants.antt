use Rattle.std.proofs.Common.{◌≡◌, ◌++◌, not, drop}
use Rattle.vtl_values.specs.declared.kind.Role.TheVariants.{Attribute}
use Rattle.data_set_trees.specs.clauses.Frames.{has_role, numbers_from}
use Rattle.result_components.proofs.components.numbers_left.Given as goal

abbrev pub invariant-loop-i : goal.invariant-loop-i
invariant-loop-i l = numbers_from (λ number c. not (has_role Attribute c)) 0 l.components ≡ l.numbers ++ numbers_from (λ number c. not (has_role Attribute c)) l.i (drop l.i l.components)
