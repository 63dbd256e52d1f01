use Rattle.std.proofs.Common.{ℕ, List, [], ◌++◌, map, take}
use Rattle.std.specs.List.{flat_map}
use Rattle.point_sets.specs.DataSets.{entry_of}
use Rattle.release_text.specs.Rows.{HasWritten}
use Rattle.release_text.specs.Tables.{point_row}
use Rattle.release_text.proofs.table.write_points.Given as goal

abbrev pub invariant-loop-point : goal.invariant-loop-point
invariant-loop-point l = (written : List ℕ) → HasWritten l.fn.writer written []
    → HasWritten l.writer (written ++ flat_map point_row (map entry_of (take l.point-index l.points))) []
