use Rattle.std.proofs.Common.{◌≡◌, ◌++◌, take}
use Rattle.std.specs.List.{flat_map}
use Rattle.commands.specs.Checking.{component_part}
use Rattle.commands.proofs.checking.push_components.Given as goal

abbrev pub invariant-loop-component : goal.invariant-loop-component
invariant-loop-component l = l.line.items ≡ l.initial.line.items ++ flat_map component_part (take l.component-index l.components)
