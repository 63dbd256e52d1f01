use Rattle.std.proofs.Common.{◌≡◌, map, drop}
use Rattle.clause_meaning.specs.Clauses.{values_on}
use Rattle.operator_meaning.specs.choices.Choices.{value_in}
use Rattle.choice_ops.proofs.Steps.{with_left}
use Rattle.choice_ops.proofs.values.measure_values.Given as goal

abbrev pub invariant-loop-measure : goal.invariant-loop-measure
invariant-loop-measure g l = values_on (g.R.Row.values l.row) (map (value_in l.truth) l.measures) ≡ with_left (g.R.Row.values l.row) l.truth l.values (drop l.measure-index l.measures)
