use Rattle.std.proofs.Common.{◌≡◌, drop}
use Rattle.written_sizes.specs.Arithmetic.{limited}
use Rattle.written_sizes.specs.Weights.{with_names}
use Rattle.written_sizes.proofs.weights.with_names.Given as goal

abbrev pub invariant-loop-n : goal.invariant-loop-n
invariant-loop-n l = with_names (limited l.measure) l.unit l.weight l.times ≡ with_names (limited l.measure) l.unit l.total (drop l.n-index l.times)
