use Rattle.std.proofs.Common.{take}
use Rattle.point_sets.proofs.WholeLemmas.{Come}
use Rattle.point_sets.proofs.whole.all_of.Given as goal

abbrev pub invariant-loop-point : goal.invariant-loop-point
invariant-loop-point l = Come (take l.point-index l.point-items) l.changes.items
