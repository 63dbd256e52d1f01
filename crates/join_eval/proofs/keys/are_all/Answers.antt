use Rattle.std.proofs.Common.{length, refl, ap, ◌∙◌, arith}
use Rattle.std.proofs.lemmas.Bool.{false≢true}
use Rattle.std.proofs.lemmas.List.FromFn.{length-range_with_len}
use Rattle.pair_eval.proofs.Places.{numbers-are, number-there}
use Rattle.join_eval.proofs.keys.are_all.Goals as goal

pub returns-then-numbers-count : goal.returns-then-numbers-count
returns-then-numbers-count c = (λ no. absurd (false≢true no), λ are. absurd (c.if-numbers-count.true (ap length are ∙ length-range_with_len 0 c.args.count)))

pub returns-then-number-i : goal.returns-then-number-i
returns-then-number-i c = (λ no. absurd (false≢true no), λ are. absurd (c.if-number-i.true (number-there c.args.numbers.now c.args.count c.loop-i.i are (omega arith))))

pub returns : goal.returns
returns c = (λ yes. numbers-are c.args.numbers.now c.args.count c.if-numbers-count.false (λ k within. c.loop-i.invariant k (omega arith)), λ are. refl)
