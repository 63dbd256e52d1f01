use Rattle.std.proofs.Common.{◌≡◌, drop}
use Rattle.operator_faults.specs.Names.{is_named}
use Rattle.operator_faults.proofs.names.is_named.Given as goal

abbrev pub invariant-loop-item : goal.invariant-loop-item
invariant-loop-item g l = is_named g.T.Named.name_of l.items l.name ≡ is_named g.T.Named.name_of (drop l.item-index l.items) l.name
