use Rattle.std.proofs.Common.{map, subst}
use Rattle.scalar_meaning.specs.Rows.{Row, point_row}
use Rattle.scalar_eval.specs.Stops.{IsMeant}
use Rattle.clause_meaning.specs.Clauses.{values_on}
use Rattle.operator_meaning.specs.choices.Choices.{value_in}
use Rattle.choice_ops.proofs.plan.measures_on.Goals as goal

pub returns : goal.returns
returns c = subst (λ (row : Row). IsMeant (values_on row (map (value_in c.args.truth) c.args.measures.now)) c.measure_values.result) (λ i. point_row (c.values.ensures i) (c.as_slice.ensures i)) c.measure_values.ensures
