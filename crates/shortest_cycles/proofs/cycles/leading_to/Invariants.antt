use Rattle.std.proofs.Common.{◌≡◌, map, take}
use Rattle.shortest_cycles.specs.Paths.{contains}
use Rattle.shortest_cycles.proofs.cycles.leading_to.Given as goal

abbrev pub invariant-loop-targets : goal.invariant-loop-targets
invariant-loop-targets l = l.marks ≡ map (λ targets. contains targets l.goal) (take l.targets-index l.graph)
