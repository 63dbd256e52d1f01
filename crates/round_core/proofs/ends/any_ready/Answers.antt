use Rattle.std.proofs.Common.{arith}
use Rattle.std.proofs.Common.{below_more}
use Rattle.round_core.proofs.ends.any_ready.Goals as goal

pub loop-i-preserved : goal.loop-i-preserved
loop-i-preserved c = below_more _ _ c.loop-i.invariant (λ r. let t = c.is_ready.ensures.1 r in let f = c.if-is_ready.false in cc (t, f))

pub returns-clause-none : goal.returns-clause-none
returns-clause-none c = λ e i r. c.loop-i.invariant i (let l = r.below in omega (arith, l, c.loop-i-test.false)) r
