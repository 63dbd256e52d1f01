use Rattle.std.proofs.Common.{◌≡◌, ◌≤◌, ◌+◌, [], length, map, min, take}
use Rattle.std.specs.FinMap.{entries}
use Rattle.point_sets.specs.Changes.{Changes, change_entry}
use Rattle.held_index.specs.Holdings.{Holding}
use Rattle.operator_meaning.specs.exists.Exists.{ExistsOn}
use Rattle.exists_ops.specs.Noted.{IsFor, IsNoted}
use Rattle.exists_ops.specs.Parts.{AreShifts, left_numbers, right_numbers}
use Rattle.exists_ops.proofs.notes.note_changes.Given as goal

-- the keys of the changes so far are noted, with a look for each
abbrev pub invariant-loop-change : goal.invariant-loop-change
invariant-loop-change g l = record {
  noted : ((e : ExistsOn) (a : Holding) (f : Changes) → IsFor e l.told a l.right l.own f → l.numbers ≡ left_numbers e → AreShifts (right_numbers e) (entries f) l.shifts
      → IsNoted e a.content l.right.content l.own f [] l.fn.draft → IsNoted e a.content l.right.content l.own f (map (λ c. c.0) (take l.change-index (map change_entry l.change-items))) l.draft);
  steps : l.steps ≤ l.fn.steps + min l.change-index (length l.change-items);
}
