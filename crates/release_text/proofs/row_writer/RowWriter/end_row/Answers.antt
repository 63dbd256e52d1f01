use Rattle.std.proofs.Common.{◌∙◌, ◌≢◌}
use Rattle.csv.specs.declared.writer.QuoteStyle.TheVariants as style
use Rattle.release_text.specs.Rows.{row}
use Rattle.release_text.proofs.RowFacts.{known_after, row_text-with_flexible}
use Rattle.release_text.proofs.row_writer.RowWriter.end_row.Goals as goal

pub returns : goal.returns
unfolding row
returns c = λ written texts h.
    let w = c.in-Ok.ensures in
    let plain : c.args.self.now.rows.cfg.style ≢ style.NonNumeric = rw h.setup (λ e. cc e) in
    let more = w.bytes h.no_field h.no_byte plain in
    record {
      setup = w.setup ∙ h.setup;
      no_field = w.ended;
      no_byte = w.clean;
      bytes = known_after _ _ written _ h.bytes (rw (h.setup, h.next, row_text-with_flexible) at more);
      next = c.clear.ensures.fields;
      next_whole = c.clear.ensures.partial;
    }
