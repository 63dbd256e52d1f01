use Rattle.std.proofs.Common.{◌≡◌, [], drop, take}
use Rattle.operator_faults.specs.Names.{again}
use Rattle.operator_faults.proofs.names.first_again.Given as goal

abbrev pub invariant-loop-i : goal.invariant-loop-i
invariant-loop-i g l = again g.T.Named.name_of [] l.items ≡ again g.T.Named.name_of (take l.i l.items) (drop l.i l.items)
