use Rattle.std.proofs.Common.{◌≡◌, ◌++◌, drop}
use Rattle.std.specs.Prelude.{filter}
use Rattle.data_set_trees.specs.clauses.Frames.{has_role}
use Rattle.data_set_parts.proofs.components.of_role.Given as goal

abbrev pub invariant-loop-component : goal.invariant-loop-component
invariant-loop-component l = filter (has_role l.role) l.components ≡ l.found ++ filter (has_role l.role) (drop l.component-index l.components)
