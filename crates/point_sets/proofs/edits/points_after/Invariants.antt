use Rattle.std.proofs.Common.{◌≡◌, ◌+◌, ◌≤◌, length, map, drop}
use Rattle.point_sets.specs.Changes.{change_entry}
use Rattle.point_sets.specs.DataSets.{of_points, Ascend}
use Rattle.point_sets.proofs.Applied.{put_each}
use Rattle.point_sets.proofs.edits.points_after.Given as goal

abbrev pub invariant-loop-change : goal.invariant-loop-change
invariant-loop-change l = record {
  ascend : Ascend l.after;
  few : length l.after ≤ length l.fn.points + l.change-index;
  applied : put_each (map change_entry (drop l.change-index l.changes)) (of_points l.after) ≡ put_each (map change_entry l.changes) (of_points l.fn.points);
}
