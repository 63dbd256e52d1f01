use Rattle.std.proofs.Common.{◌≡◌, map, take}
use Rattle.point_sets.specs.Changes.{change_entry}
use Rattle.exists_ops.specs.Parts.{AreShifts}
use Rattle.exists_ops.proofs.parts.shifts_of.Given as goal

-- the changes so far are added
abbrev pub invariant-loop-change : goal.invariant-loop-change
invariant-loop-change l = record {
  added : AreShifts l.numbers (take l.change-index (map change_entry l.change-items)) l.shifts;
  counted : l.count ≡ l.change-index;
}
