use Rattle.std.proofs.Common.{◌≡◌, ◌∙◌}
use Rattle.revision_files.specs.Feeds.{table_of}
use Rattle.revision_files.specs.Readers.{IsReading, table_left}
use Rattle.revision_files.proofs.Reading.{new-reading}
use Rattle.revision_files.proofs.table.reader_of.Goals as goal

pub returns : goal.returns
returns c =
    let made = c.from_reader.ensures in
    let flexible = c.flexible.ensures in
    let bare = c.has_headers.ensures in
    let start : IsReading c.from_reader.result × (table_of c.args.text.now ≡ table_left c.from_reader.result) =
    new-reading c.from_reader.result c.args.text.now (rw (flexible, bare) at made.trim ∙ c.new.ensures.trim) (rw (flexible, bare) at made.has_headers) made.headers (rw flexible at made.flexible) (rw (flexible, bare) at made.config ∙ c.new.ensures.config) made.state made.source c.requires in
    record { reading = start.0; table = start.1 }
