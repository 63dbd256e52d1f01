use Rattle.std.proofs.Common.{◌≡◌, ◌-◌, length}
use Rattle.shortest_cycles.specs.Firsts.{first_some}
use Rattle.shortest_cycles.specs.Cycles.{cycle_of, count_from, first_cycle}
use Rattle.shortest_cycles.proofs.cycles.find_cycle.Given as goal

abbrev pub invariant-loop-start : goal.invariant-loop-start
invariant-loop-start l = first_cycle l.graph ≡ first_some (cycle_of l.graph) (count_from l.start (length l.graph - l.start))
