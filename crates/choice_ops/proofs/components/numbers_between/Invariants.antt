use Rattle.std.proofs.Common.{◌≡◌, ◌++◌, drop}
use Rattle.choice_ops.specs.Plans.{numbers_between}
use Rattle.choice_ops.proofs.components.numbers_between.Given as goal

abbrev pub invariant-loop-component : goal.invariant-loop-component
invariant-loop-component l = numbers_between l.from l.to ≡ l.numbers ++ numbers_between l.from (drop l.component-index l.to)
