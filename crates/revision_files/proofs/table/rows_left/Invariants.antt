use Rattle.std.proofs.Common.{◌≡◌, ◌<◌, ◌≤◌, [], length}
use Rattle.revision_files.specs.Answers.{one_by_one}
use Rattle.revision_files.specs.Readers.{IsReading, table_left}
use Rattle.revision_files.specs.Rows.{MOST_ROWS, next_row}
use Rattle.revision_files.proofs.table.rows_left.Given as goal

abbrev pub invariant-loop-record : goal.invariant-loop-record
invariant-loop-record l = IsReading l.record-iterator.rdr
    × (0 < l.record-iterator.left)
    × (one_by_one (next_row l.block l.columns) (record { rows = []; fields = l.fields }) (table_left l.fn.reader) ≡ one_by_one (next_row l.block l.columns) l.rows (table_left l.record-iterator.rdr))
    × (length l.rows.rows ≤ MOST_ROWS)
