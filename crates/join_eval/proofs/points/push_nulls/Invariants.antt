use Rattle.std.proofs.Common.{◌≡◌, ◌++◌, map, take}
use Rattle.vtl_values.specs.declared.value.Value.TheVariants.{Null}
use Rattle.join_eval.proofs.points.push_nulls.Given as goal

abbrev pub invariant-loop-number : goal.invariant-loop-number
invariant-loop-number l = l.values ≡ l.fn.values ++ map (λ number. Null) (take l.number-index l.numbers)
