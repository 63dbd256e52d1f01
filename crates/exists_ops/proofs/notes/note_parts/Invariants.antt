use Rattle.std.proofs.Common.{◌≡◌, ◌≤◌, ◌+◌, List, ◌++◌, Some, length}
use Rattle.std.specs.BTreeMap.{get}
use Rattle.std.specs.FinMap.{entries}
use Rattle.vtl_values.specs.declared.value.Value.{Value}
use Rattle.vtl_values.specs.Order.{key_cmp}
use Rattle.point_sets.specs.Changes.{Changes}
use Rattle.operator_meaning.specs.exists.Exists.{ExistsOn}
use Rattle.exists_ops.specs.Noted.{IsFor, IsNoted}
use Rattle.exists_ops.specs.Parts.{AreShifts, right_numbers}
use Rattle.exists_ops.specs.Walked.{walked, cost}
use Rattle.exists_ops.specs.declared.parts.Shift.{Shift}
use Rattle.exists_ops.proofs.notes.note_parts.Given as goal

-- what is left has what is kept of its parts, and with the keys of the parts that are left those that are noted are all
abbrev pub invariant-loop-part : goal.invariant-loop-part
invariant-loop-part g l = record {
  kept : ((part : List Value) (s : Shift) → get key_cmp l.shifts part ≡ Some s → get key_cmp l.fn.shifts part ≡ Some s);
  noted : ((e : ExistsOn) (f : Changes) → IsFor e l.told l.left l.right l.own f → AreShifts (right_numbers e) (entries f) l.fn.shifts → (ks : List (List Value))
      → IsNoted e l.left.content l.right.content l.own f ks l.fn.draft
      → (js : List (List Value)) × IsNoted e l.left.content l.right.content l.own f js l.draft × (js ++ walked l.left l.right l.shifts.entries ≡ ks ++ walked l.left l.right l.fn.shifts.entries));
  steps : l.steps + cost l.left l.shifts.entries ≤ l.fn.steps + cost l.left l.fn.shifts.entries;
}

abbrev pub decreases-loop-part : goal.decreases-loop-part
decreases-loop-part g l = length l.shifts.entries
