use Rattle.std.proofs.Common.{◌≡◌, length}
use Rattle.script_graph.proofs.Orders.{Marks, IsSoFar}
use Rattle.script_graph.proofs.ordering.in_order.Given as goal

-- what has come is marked, is so far an order, and is as many as there were steps
abbrev pub invariant-loop-n : goal.invariant-loop-n
invariant-loop-n l = Marks l.graph l.marks l.order.items × IsSoFar l.graph l.order.items × (length l.order.items ≡ l._n)
