use Rattle.std.proofs.Common.{◌≡◌, ◌++◌, take}
use Rattle.written_sizes.proofs.faults.put_rest.Given as goal

abbrev pub invariant-loop-call : goal.invariant-loop-call
invariant-loop-call l = l.out ≡ l.initial.out ++ take l.call-index l.calls
