use Rattle.std.proofs.Common.{◌≡◌, map, take}
use Rattle.std.specs.List.{list_any}
use Rattle.shortest_cycles.specs.Tables.{mark_at}
use Rattle.shortest_cycles.proofs.cycles.leading_to_marked.Given as goal

abbrev pub invariant-loop-targets : goal.invariant-loop-targets
invariant-loop-targets l = l.next ≡ map (list_any (mark_at l.marks)) (take l.targets-index l.graph)
