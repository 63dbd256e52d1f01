use Rattle.std.proofs.Common.{◌≡◌, ◌-◌, ◌∷◌, ◌++◌}
use Rattle.shortest_cycles.specs.Cycles.{between}
use Rattle.shortest_cycles.proofs.cycles.cycle_on.Given as goal

-- what is there, and then the rest of the way
abbrev pub invariant-loop-k : goal.invariant-loop-k
invariant-loop-k l = l.start ∷ between l.graph l.left l.start l.start ≡ l.cycle ++ between l.graph (l.left - l.k) l.start l.last
