use Rattle.std.proofs.Common.{◌≡◌, take}
use Rattle.std.specs.List.{flat_map}
use Rattle.script_graph.specs.Faults.{name_at}
use Rattle.script_graph.proofs.cycle.names_of.Given as goal

abbrev pub invariant-loop-number : goal.invariant-loop-number
invariant-loop-number l = l.names ≡ flat_map (name_at l.statements) (take l.number-index l.numbers)
