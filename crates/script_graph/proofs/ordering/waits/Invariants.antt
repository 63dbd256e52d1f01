use Rattle.std.proofs.Common.{◌≡◌, not, drop}
use Rattle.std.specs.List.{list_any}
use Rattle.shortest_cycles.specs.Tables.{mark_at}
use Rattle.script_graph.proofs.ordering.waits.Given as goal

abbrev pub invariant-loop-target : goal.invariant-loop-target
invariant-loop-target l = list_any (λ k. not (mark_at l.marks k)) l.targets ≡ list_any (λ k. not (mark_at l.marks k)) (drop l.target-index l.targets)
