use Rattle.std.proofs.Common.{◌≡◌, ◌++◌, drop}
use Rattle.set_ops.specs.Orders.{numbers_between}
use Rattle.set_ops.proofs.order.numbers_between.Given as goal

abbrev pub invariant-loop-component : goal.invariant-loop-component
invariant-loop-component l = numbers_between l.from l.to ≡ l.numbers.items ++ numbers_between l.from (drop l.component-index l.to)
