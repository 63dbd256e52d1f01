use Rattle.std.proofs.Common.{refl}
use Rattle.vtl_decimals.specs.Arithmetic.{rounded_quotient}
use Rattle.operator_meaning.proofs.aggregates.examples.means_are_rounded.Goals as goal

pub returns-clause-avg : goal.returns-clause-avg
unfolding rounded_quotient
returns-clause-avg c = refl

pub returns-clause-median : goal.returns-clause-median
unfolding rounded_quotient
returns-clause-median c = refl
