use Rattle.std.proofs.Common.{◌∙◌, ap, Some, append-nil}
use Rattle.csv.specs.Writing.{with_flexible}
use Rattle.release_text.proofs.row_writer.RowWriter.after.Goals as goal

pub returns : goal.returns
returns c = record {
  setup = c.from_writer.ensures.cfg ∙ c.flexible.ensures ∙ ap (λ b. with_flexible b _) c.new.ensures;
  no_field = c.from_writer.ensures.fields;
  no_byte = c.from_writer.ensures.wrote;
  bytes = rw (c.from_writer.ensures.wtr, c.from_writer.ensures.empty) (ap Some (append-nil _));
  next = c.new-2.ensures.fields;
  next_whole = c.new-2.ensures.partial;
}
