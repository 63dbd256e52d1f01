use Rattle.std.proofs.Common.{◌≡◌, take}
use Rattle.clause_typing.proofs.parts.copy_components.Given as goal

abbrev pub invariant-loop-component : goal.invariant-loop-component
invariant-loop-component l = l.copy ≡ take l.component-index l.components
