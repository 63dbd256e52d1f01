use Rattle.std.proofs.Common.{◌≡◌, ◌-◌, length}
use Rattle.std.specs.Prelude.{find}
use Rattle.shortest_cycles.specs.Cycles.{count_from}
use Rattle.script_graph.specs.Orders.{can_come, next_of}
use Rattle.script_graph.proofs.ordering.next_of.Given as goal

abbrev pub invariant-loop-number : goal.invariant-loop-number
invariant-loop-number l = next_of l.graph l.marks ≡ find (can_come l.graph l.marks) (count_from l.number (length l.graph - l.number))
