use Rattle.std.proofs.Common.{◌≡◌, ◌++◌, drop}
use Rattle.written_sizes.specs.SizeFaults.{before, after}
use Rattle.written_sizes.proofs.faults.put_before.Given as goal

abbrev pub invariant-loop-i : goal.invariant-loop-i
invariant-loop-i l =
    (l.initial.out ++ before l.place l.calls ≡ l.out ++ before l.place (drop l.i l.calls))
    × (after l.place l.calls ≡ after l.place (drop l.i l.calls))
