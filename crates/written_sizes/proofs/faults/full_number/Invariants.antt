use Rattle.std.proofs.Common.{◌≡◌, drop}
use Rattle.written_sizes.specs.SizeFaults.{full_number}
use Rattle.written_sizes.proofs.faults.full_number.Given as goal

abbrev pub invariant-loop-i : goal.invariant-loop-i
invariant-loop-i l = full_number 0 0 l.expressions ≡ full_number l.total l.i (drop l.i l.expressions)
