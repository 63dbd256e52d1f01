use Rattle.std.proofs.Common.{◌≡◌, drop}
use Rattle.join_typing.specs.Joining.{aliases_differ}
use Rattle.join_typing.proofs.beginning.no_alias_twice.Given as goal

abbrev pub invariant-loop-i : goal.invariant-loop-i
invariant-loop-i l = aliases_differ l.operands ≡ aliases_differ (drop l.i l.operands)
