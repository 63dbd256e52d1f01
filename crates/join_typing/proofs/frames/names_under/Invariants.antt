use Rattle.std.proofs.Common.{◌≡◌, ◌++◌, drop}
use Rattle.data_set_trees.specs.Joins.{names_under}
use Rattle.join_typing.proofs.frames.names_under.Given as goal

abbrev pub invariant-loop-i : goal.invariant-loop-i
invariant-loop-i l = names_under 0 l.components l.titles ≡ l.names ++ names_under l.i (drop l.i l.components) (drop l.i l.titles)
