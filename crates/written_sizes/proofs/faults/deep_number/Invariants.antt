use Rattle.std.proofs.Common.{◌≡◌, drop}
use Rattle.written_sizes.specs.SizeFaults.{deep_number}
use Rattle.written_sizes.proofs.faults.deep_number.Given as goal

abbrev pub invariant-loop-i : goal.invariant-loop-i
invariant-loop-i l = deep_number 0 l.levels ≡ deep_number l.i (drop l.i l.levels)
