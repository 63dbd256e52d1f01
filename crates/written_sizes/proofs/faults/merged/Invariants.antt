use Rattle.std.proofs.Common.{◌≡◌, ◌++◌, drop}
use Rattle.written_sizes.specs.SizeFaults.{merged}
use Rattle.written_sizes.proofs.faults.merged.Given as goal

abbrev pub invariant-loop-call : goal.invariant-loop-call
invariant-loop-call l = merged l.first l.second ≡ l.out ++ merged (drop l.call-index l.first) l.rest
