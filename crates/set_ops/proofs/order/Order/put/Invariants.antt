use Rattle.std.proofs.Common.{◌≡◌, ◌++◌, drop}
use Rattle.clause_meaning.specs.Clauses.{values_at}
use Rattle.set_ops.proofs.order.Order.put.Given as goal

abbrev pub invariant-loop-number : goal.invariant-loop-number
invariant-loop-number l = values_at l.number-items l.values ≡ l.put.items ++ values_at (drop l.number-index l.number-items) l.values
