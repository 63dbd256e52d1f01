use Rattle.release_text.specs.Tables.{values_row as row_of_values}
use Rattle.release_text.proofs.table.values_row.Goals as goal

pub returns : goal.returns
unfolding row_of_values
returns c = rw (c.new.ensures.items) at (c.into_text.ensures _ _ (c.in_ok-end_row.ensures _ _ (c.in_ok-push_values.ensures _ _ c.after-writer.ensures)))
