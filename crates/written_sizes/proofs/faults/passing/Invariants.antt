use Rattle.std.proofs.Common.{◌≡◌, drop}
use Rattle.written_sizes.specs.SizeFaults.{passing}
use Rattle.written_sizes.proofs.faults.passing.Given as goal

abbrev pub invariant-loop-call : goal.invariant-loop-call
invariant-loop-call l = passing l.before l.calls ≡ passing l.total (drop l.call-index l.calls)
