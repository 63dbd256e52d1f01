use Rattle.std.proofs.Common.{◌≡◌, ◌-◌, length}
use Rattle.std.specs.Prelude.{find}
use Rattle.shortest_cycles.specs.Cycles.{count_from}
use Rattle.shortest_cycles.specs.Tables.{is_on}
use Rattle.shortest_cycles.proofs.cycles.shortest.Given as goal

abbrev pub invariant-loop-n : goal.invariant-loop-n
invariant-loop-n l = find (is_on l.ways l.start) (count_from 0 (length l.ways)) ≡ find (is_on l.ways l.start) (count_from l.n (length l.ways - l.n))
