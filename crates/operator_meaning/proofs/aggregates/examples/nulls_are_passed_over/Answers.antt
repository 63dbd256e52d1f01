use Rattle.std.proofs.Common.{refl}
use Rattle.vtl_decimals.specs.Arithmetic.{rounded_quotient}
use Rattle.scalar_meaning.specs.Numbers.{integer_of}
use Rattle.operator_meaning.proofs.aggregates.examples.nulls_are_passed_over.Goals as goal

pub returns-clause-sum : goal.returns-clause-sum
unfolding integer_of
returns-clause-sum c = refl

pub returns-clause-avg : goal.returns-clause-avg
unfolding rounded_quotient
returns-clause-avg c = refl

pub returns-clause-median : goal.returns-clause-median
unfolding rounded_quotient
returns-clause-median c = refl
