use Rattle.std.proofs.Common.{◌≡◌}
use Rattle.shortest_cycles.specs.Tables.{row, rows}
use Rattle.shortest_cycles.proofs.cycles.ways.Given as goal

abbrev pub invariant-loop-n : goal.invariant-loop-n
invariant-loop-n l = (l.ways ≡ rows l.graph l.goal l._n) × (l.marks ≡ row l.graph l.goal l._n)
