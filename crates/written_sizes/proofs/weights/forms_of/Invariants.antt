use Rattle.std.proofs.Common.{◌≡◌}
use Rattle.written_sizes.specs.Arithmetic.{limited}
use Rattle.written_sizes.specs.Weights.{forms}
use Rattle.written_sizes.proofs.weights.forms_of.Given as goal

abbrev pub invariant-loop-round : goal.invariant-loop-round
invariant-loop-round l = l.forms ≡ forms (limited l.measure) l.measure l.operators l._round
