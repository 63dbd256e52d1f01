use Rattle.std.proofs.Common.{◌≡◌, drop}
use Rattle.std.specs.Prelude.{find}
use Rattle.written_sizes.specs.SizeFaults.{is_too_deep}
use Rattle.written_sizes.proofs.faults.first_deep.Given as goal

abbrev pub invariant-loop-call : goal.invariant-loop-call
invariant-loop-call l = find is_too_deep l.calls ≡ find is_too_deep (drop l.call-index l.calls)
