use Rattle.std.proofs.Common.{◌≡◌, take}
use Rattle.operator_faults.specs.Calls.{all_sites}
use Rattle.operator_faults.specs.Recursions.{put_sites}
use Rattle.operator_faults.proofs.graph.+put.Given as goal

abbrev pub invariant-put_all_calls-loop-outline : goal.invariant-put_all_calls-loop-outline
invariant-put_all_calls-loop-outline l = l.out ≡ put_sites l.operators l.initial.out (all_sites (take l.outline-index l.outlines))
