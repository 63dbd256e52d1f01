use Rattle.std.proofs.Common.{◌≡◌, ◌++◌, drop}
use Rattle.data_set_trees.specs.clauses.Frames.{numbers_from}
use Rattle.data_set_trees.specs.clauses.After.{is_kept}
use Rattle.clause_typing.proofs.numbers.numbers_kept.Given as goal

abbrev pub invariant-loop-i : goal.invariant-loop-i
invariant-loop-i l = numbers_from (is_kept l.named) 0 l.components ≡ l.numbers ++ numbers_from (is_kept l.named) l.i (drop l.i l.components)
