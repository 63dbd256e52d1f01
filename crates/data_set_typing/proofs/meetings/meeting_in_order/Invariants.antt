use Rattle.std.proofs.Common.{◌≡◌, ◌++◌, drop}
use Rattle.std.specs.Prelude.{zip}
use Rattle.data_set_typing.proofs.meetings.meeting_in_order.Given as goal

abbrev pub invariant-loop-i : goal.invariant-loop-i
invariant-loop-i l = zip l.measures l.others ≡ l.met ++ zip (drop l.i l.measures) (drop l.i l.others)
