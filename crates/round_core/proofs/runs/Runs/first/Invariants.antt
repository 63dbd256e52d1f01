use Rattle.std.proofs.Common.{◌≡◌, map, take}
use Rattle.std.specs.Arc.{arc_value}
use Rattle.round_core.proofs.runs.Runs.first.Given as goal

abbrev pub invariant-loop-run : goal.invariant-loop-run
invariant-loop-run l = map arc_value l.runs.items ≡ take l.run-index (map arc_value l.first)
