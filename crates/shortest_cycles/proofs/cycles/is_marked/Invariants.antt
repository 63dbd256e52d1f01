use Rattle.std.proofs.Common.{◌≡◌, drop}
use Rattle.std.specs.List.{list_any}
use Rattle.shortest_cycles.specs.Tables.{mark_at}
use Rattle.shortest_cycles.proofs.cycles.is_marked.Given as goal

abbrev pub invariant-loop-number : goal.invariant-loop-number
invariant-loop-number l = list_any (mark_at l.marks) l.numbers ≡ list_any (mark_at l.marks) (drop l.number-index l.numbers)
