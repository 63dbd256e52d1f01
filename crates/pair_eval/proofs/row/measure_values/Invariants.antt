use Rattle.std.proofs.Common.{◌≡◌, ◌++◌, List, drop}
use Rattle.std.specs.Prelude.{option_map}
use Rattle.vtl_values.specs.declared.value.Value.{Value}
use Rattle.scalar_meaning.specs.Rows.{point_row}
use Rattle.clause_meaning.specs.Clauses.{worked_values}
use Rattle.pair_eval.proofs.row.measure_values.Given as goal

abbrev pub invariant-loop-measure : goal.invariant-loop-measure
invariant-loop-measure l = worked_values (point_row (l.left.key ++ l.left.rest) (l.right.key ++ l.right.rest)) l.measures ≡ option_map (λ (vs : List Value). l.values ++ vs) (worked_values (point_row (l.left.key ++ l.left.rest) (l.right.key ++ l.right.rest)) (drop l.measure-index l.measures))
