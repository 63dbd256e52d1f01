use Rattle.std.proofs.Common.{◌≡◌, ◌++◌, List, drop}
use Rattle.std.specs.Prelude.{option_map}
use Rattle.vtl_values.specs.declared.value.Value.{Value}
use Rattle.scalar_meaning.specs.Rows.{point_row}
use Rattle.clause_meaning.specs.Clauses.{worked_values}
use Rattle.clause_eval.proofs.items.measure_values.Given as goal

abbrev pub invariant-loop-item : goal.invariant-loop-item
invariant-loop-item l = worked_values (point_row l.point.key l.point.rest) l.items ≡ option_map (λ (vs : List Value). l.values ++ vs) (worked_values (point_row l.point.key l.point.rest) (drop l.item-index l.items))
