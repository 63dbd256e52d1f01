use Rattle.std.proofs.Common.{◌≡◌, drop}
use Rattle.shortest_cycles.specs.Paths.{contains}
use Rattle.shortest_cycles.proofs.cycles.contains.Given as goal

abbrev pub invariant-loop-n : goal.invariant-loop-n
invariant-loop-n l = contains l.numbers l.number ≡ contains (drop l.n-index l.numbers) l.number
