-- Rows as the crate csv writes them (docs/formats.md, "Tables").
use Rattle.std.specs.Prelude.{◌≡◌, ℕ, List, [], Some, true, false, map, encode_utf8_all}
use Rattle.csv.specs.Records.{fields_of, partial_of}
use Rattle.csv.specs.Writing.{default_writer, row_text, with_flexible, writer_setup, fields_written, has_written, text_written}
use Rattle.release_text.specs.declared.row_writer.RowWriter.{RowWriter}

-- the texts as csv writes a record by default: the fields are their UTF-8, and the line ends with `\n`
unfoldable pub row : List (List ℕ) → List ℕ
row texts = row_text default_writer (map encode_utf8_all texts)

-- a writer of rows has written this, and has these texts for the next row
pub record HasWritten (w : RowWriter) (written : List ℕ) (texts : List (List ℕ)) : Type 0 where
  -- it writes as by default, but for rows of any length
  pub setup : writer_setup w.rows ≡ with_flexible default_writer true
  -- it stands between two rows
  pub no_field : fields_written w.rows ≡ 0
  pub no_byte : has_written w.rows ≡ false
  pub bytes : text_written (λ v. Some v.items) w.rows ≡ Some written
  pub next : fields_of w.row ≡ map encode_utf8_all texts
  pub next_whole : partial_of w.row ≡ []
