use Rattle.std.proofs.Common.{◌≡◌, map, take}
use Rattle.scalar_trees.specs.typing.Scopes.{column_of}
use Rattle.operator_typing.proofs.scopes.columns_of.Given as goal

abbrev pub invariant-loop-component : goal.invariant-loop-component
invariant-loop-component l = l.columns ≡ map column_of (take l.component-index l.components)
