use Rattle.std.proofs.Common.{◌≡◌, drop}
use Rattle.cross_joins.specs.Combinations.{combinations_of}
use Rattle.cross_joins.specs.Rows.{lists_in}
use Rattle.cross_joins.proofs.combinations.combinations.Given as goal

-- the lists from this one on are combined
abbrev pub invariant-loop-i : goal.invariant-loop-i
invariant-loop-i l = lists_in l.all ≡ combinations_of (drop l.i (lists_in l.lists))
