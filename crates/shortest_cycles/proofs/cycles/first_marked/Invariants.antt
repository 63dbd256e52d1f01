use Rattle.std.proofs.Common.{◌≡◌, drop}
use Rattle.shortest_cycles.specs.Tables.{first_marked}
use Rattle.shortest_cycles.proofs.cycles.first_marked.Given as goal

abbrev pub invariant-loop-number : goal.invariant-loop-number
invariant-loop-number l = first_marked l.numbers l.marks ≡ first_marked (drop l.number-index l.numbers) l.marks
