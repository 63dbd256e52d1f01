use Rattle.std.proofs.Common.{◌≡◌, ◌++◌, map, take}
use Rattle.operator_meaning.specs.joins.Joins.{join_key}
use Rattle.join_eval.specs.Plans.{structure_of}
use Rattle.outer_joins.proofs.notes.push_keys.Given as goal

abbrev pub invariant-loop-change : goal.invariant-loop-change
invariant-loop-change l = l.keys.items ≡ l.fn.keys.items ++ map (λ c. join_key l.plan (structure_of l.plan l.operand) c.key) (take l.change-index l.change-items)
