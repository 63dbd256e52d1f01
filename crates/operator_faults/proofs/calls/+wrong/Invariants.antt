use Rattle.std.proofs.Common.{◌≡◌, drop, find}
use Rattle.operator_faults.specs.Calls.{is_wrong, all_sites}
use Rattle.operator_faults.proofs.calls.+wrong.Given as goal

abbrev pub invariant-first_wrong-loop-outline : goal.invariant-first_wrong-loop-outline
invariant-first_wrong-loop-outline l = find (is_wrong l.fault l.operators) (all_sites l.outlines) ≡ find (is_wrong l.fault l.operators) (all_sites (drop l.outline-index l.outlines))
