use Rattle.std.proofs.Common.{◌≡◌, ◌++◌, drop}
use Rattle.operator_meaning.specs.joins.Joins.{numbers_among}
use Rattle.join_eval.proofs.components.numbers_among.Given as goal

abbrev pub invariant-loop-component : goal.invariant-loop-component
invariant-loop-component l = numbers_among l.all l.components ≡ l.numbers ++ numbers_among l.all (drop l.component-index l.components)
