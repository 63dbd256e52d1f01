use Rattle.std.proofs.Common.{◌≡◌, ◌++◌, drop}
use Rattle.scalar_trees.specs.typing.Scopes.{names_from}
use Rattle.operator_typing.proofs.scopes.names_of.Given as goal

abbrev pub invariant-loop-i : goal.invariant-loop-i
invariant-loop-i l = names_from 0 l.components ≡ l.names ++ names_from l.i (drop l.i l.components)
