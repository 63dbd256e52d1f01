use Rattle.std.proofs.Common.{◌≡◌, ◌++◌, drop}
use Rattle.data_set_trees.specs.clauses.Frames.{numbers_from}
use Rattle.data_set_trees.specs.clauses.After.{is_among}
use Rattle.window_typing.proofs.parts.numbers_among.Given as goal

abbrev pub invariant-loop-i : goal.invariant-loop-i
invariant-loop-i l = numbers_from (λ number c. is_among l.named number) 0 l.components ≡ l.numbers ++ numbers_from (λ number c. is_among l.named number) l.i (drop l.i l.components)
