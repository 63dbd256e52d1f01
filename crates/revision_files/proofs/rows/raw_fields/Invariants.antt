use Rattle.std.proofs.Common.{◌≡◌, map, take}
use Rattle.revision_files.specs.Rows.{raw_field, text_in}
use Rattle.revision_files.specs.Texts.{texts_of}
use Rattle.revision_files.proofs.rows.raw_fields.Given as goal

abbrev pub invariant-loop-column : goal.invariant-loop-column
invariant-loop-column l = l.fields.items ≡ map (λ column. raw_field (text_in (texts_of l.row) column)) (take l.column-index l.columns)
