use Rattle.std.proofs.Common.{◌≡◌}
use Rattle.written_sizes.specs.declared.form.Share.TheVariants as share
use Rattle.written_sizes.specs.Arithmetic.{limited}
use Rattle.written_sizes.specs.Weights.{shares, weight}
use Rattle.written_sizes.proofs.weights.form.Given as goal

abbrev pub invariant-loop-i : goal.invariant-loop-i
invariant-loop-i l = l.times ≡ shares (λ k. weight (limited l.measure) l.measure l.operators l.forms l.params (share.Of k) l.body) l.i
