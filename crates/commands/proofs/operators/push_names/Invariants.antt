use Rattle.std.proofs.Common.{◌≡◌, ◌++◌, take}
use Rattle.std.specs.List.{flat_map}
use Rattle.commands.specs.Scripts.{after_comma}
use Rattle.commands.proofs.operators.push_names.Given as goal

abbrev pub invariant-loop-name : goal.invariant-loop-name
invariant-loop-name l = l.line.items ≡ l.initial.line.items ++ flat_map after_comma (take l.name-index l.others)
