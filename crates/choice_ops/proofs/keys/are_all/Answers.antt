use Rattle.std.proofs.Common.{arith}
use Rattle.choice_ops.proofs.Places.{numbers-are}
use Rattle.choice_ops.proofs.keys.are_all.Goals as goal

pub returns : goal.returns
returns c = numbers-are c.args.numbers.now c.args.count c.if-numbers-count.false (λ k within. c.loop-i.invariant k (omega arith))
