use Rattle.std.proofs.Common.{sym}
use Rattle.operator_faults.proofs.Finds.{put_next}
use Rattle.operator_faults.proofs.graph.+put.Goals as goal

pub put_calls-returns : goal.put_calls-returns
put_calls-returns t c =
    put_next c.put_all_calls.result c.args.operators.now c.args.out.now c.put_call.new.out c.put_all_calls.new.out c.args.outline.now
    (c.in_ok-put_call.ensures {u = tt})
    (rw (sym c.as_slice.ensures) c.put_all_calls.ensures)
