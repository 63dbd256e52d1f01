use Rattle.round_core.proofs.StepLemmas.{first_ready_at}
use Rattle.round_core.proofs.ends.first_ready.Goals as goal

pub returns-then-is_ready-clause-found : goal.returns-then-is_ready-clause-found
returns-then-is_ready-clause-found c = first_ready_at c.args.slots.now c.args.order.now c.loop-i.i-index c.loop-i-test.true (c.is_ready.ensures.0 c.if-is_ready.true) c.loop-i.invariant
