use Rattle.std.proofs.Common.{◌≡◌, drop}
use Rattle.data_set_trees.specs.Pairs.{are_among}
use Rattle.data_set_typing.proofs.meetings.are_among.Given as goal

abbrev pub invariant-loop-i : goal.invariant-loop-i
invariant-loop-i l = are_among l.measures l.others ≡ are_among (drop l.i l.measures) l.others
