use Rattle.std.proofs.Common.{◌≡◌, ◌++◌, drop}
use Rattle.data_set_trees.specs.aggregates.Groups.{columns_from}
use Rattle.aggregate_typing.proofs.groups.columns_of.Given as goal

abbrev pub invariant-loop-i : goal.invariant-loop-i
invariant-loop-i l = columns_from l.grouping 0 l.components ≡ l.columns ++ columns_from l.grouping l.i (drop l.i l.components)
