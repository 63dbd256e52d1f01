use Rattle.std.proofs.Common.{append_assoc}
use Rattle.release_text.specs.Tables.{table}
use Rattle.release_text.proofs.table.with_table.Goals as goal

pub returns : goal.returns
unfolding table
returns c =
    let after = c.into_text.ensures _ _ (c.in_ok-write_points.ensures _ (c.in_ok-write_header.ensures _ c.after-writer.ensures)) in
    rw (c.as_slice.ensures.value, c.in_ok-points.ensures, append_assoc _ _ _) at after
