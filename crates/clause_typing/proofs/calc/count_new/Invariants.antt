use Rattle.std.proofs.Common.{◌≡◌, take}
use Rattle.std.specs.Prelude.{count_by}
use Rattle.clause_typing.specs.Rooms.{is_new}
use Rattle.clause_typing.proofs.calc.count_new.Given as goal

abbrev pub invariant-loop-item : goal.invariant-loop-item
invariant-loop-item l = l.new ≡ count_by is_new (take l.item-index l.items)
