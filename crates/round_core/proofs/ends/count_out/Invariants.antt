use Rattle.std.proofs.Common.{◌≡◌, ◌≤◌, take}
use Rattle.std.specs.Prelude.{count_by}
use Rattle.round_core.specs.Slots.{is_out}
use Rattle.round_core.proofs.ends.count_out.Given as goal

abbrev pub invariant-loop-slot : goal.invariant-loop-slot
invariant-loop-slot l = (l.count ≡ count_by is_out (take l.slot-index l.slots)) × (l.count ≤ l.slot-index)
