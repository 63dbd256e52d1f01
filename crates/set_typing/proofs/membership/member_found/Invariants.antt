use Rattle.std.proofs.Common.{◌≡◌, drop}
use Rattle.data_set_trees.specs.Members.{member_from}
use Rattle.set_typing.proofs.membership.member_found.Given as goal

abbrev pub invariant-loop-i : goal.invariant-loop-i
invariant-loop-i l = member_from 0 l.name l.components ≡ member_from l.i l.name (drop l.i l.components)
