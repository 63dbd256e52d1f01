use Rattle.std.proofs.Common.{◌≡◌, ◌++◌, drop}
use Rattle.held_index.specs.Sums.{join_sums}
use Rattle.held_index.proofs.sums.joined.Given as goal

abbrev pub invariant-loop-i : goal.invariant-loop-i
invariant-loop-i l = l.all.items ++ join_sums (drop l.i l.one) (drop l.i l.other) ≡ join_sums l.one l.other
