use Rattle.std.proofs.Common.{◌≡◌, ◌++◌, drop}
use Rattle.data_set_trees.specs.clauses.Frames.{numbers_from}
use Rattle.data_set_trees.specs.clauses.After.{is_left}
use Rattle.clause_typing.proofs.numbers.numbers_left.Given as goal

abbrev pub invariant-loop-i : goal.invariant-loop-i
invariant-loop-i l = numbers_from (is_left l.named) 0 l.components ≡ l.numbers ++ numbers_from (is_left l.named) l.i (drop l.i l.components)
