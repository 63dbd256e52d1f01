use Rattle.std.proofs.Common.{◌≡◌, None, Some, Ok, option_map, subst, sym, ◌∙◌}
use Rattle.std.specs.Result.{IfErr, IfOk}
use Rattle.csv.specs.Records.{fields_of}
use Rattle.revision_files.specs.Answers.{Refuses}
use Rattle.revision_files.specs.Columns.{columns_of}
use Rattle.revision_files.specs.Readers.{table_left}
use Rattle.revision_files.specs.Texts.{texts_of}
use Rattle.revision_files.proofs.Reading.{read-more, read-none, why-memory}
use Rattle.revision_files.proofs.Tables.{rows_in-bare, rows_in-misfit, rows_in-rows}
use Rattle.revision_files.proofs.table.rows_in.Goals as goal

pub returns-in-Ok-false-clause-err : goal.returns-in-Ok-false-clause-err
returns-in-Ok-false-clause-err c =
    let start = c.reader_of-reader.ensures in
    let read = rw c.in-Ok-false.field-0-test at (c.in-Ok-false.ensures.reads start.reading.trim start.reading.ready) in
    rows_in-bare (option_map (λ s. s.now) c.args.structure) c.args.block c.args.fields c.args.text.now (start.table ∙ read-none c.reader_of-reader.result c.read_record.new.self (fields_of c.read_record.new.row) start.reading read)

pub stop_of-requires : goal.stop_of-requires
stop_of-requires c =
    let start = c.reader_of-reader.ensures in
    why-memory c.reader_of-reader.result c.read_record.new.self _ start.reading (c.in-Err.ensures.why start.reading.trim start.reading.ready)

pub rows_left-requires : goal.rows_left-requires
rows_left-requires c =
    let start = c.reader_of-reader.ensures in
    let given = rw c.in-Ok-true.field-0-test at (c.in-Ok-true.ensures.reads start.reading.trim start.reading.ready) in
    let read = read-more c.reader_of-reader.result c.read_record.new.self (fields_of c.read_record.new.row) start.reading given (c.in-Ok-true.ensures.ready start.reading.trim) (c.in-Ok-true.ensures.flexible ∙ start.reading.flexible) in
    read.reading

pub returns-in_default-clause-err : goal.returns-in_default-clause-err
returns-in_default-clause-err c =
    let start = c.reader_of-reader.ensures in
    let given = rw c.in-Ok-true.field-0-test at (c.in-Ok-true.ensures.reads start.reading.trim start.reading.ready) in
    let read = read-more c.reader_of-reader.result c.read_record.new.self (fields_of c.read_record.new.row) start.reading given (c.in-Ok-true.ensures.ready start.reading.trim) (c.in-Ok-true.ensures.flexible ∙ start.reading.flexible) in
    rows_in-misfit (option_map (λ s. s.now) c.args.structure) c.args.block c.args.fields c.args.text.now (texts_of c.read_record.new.row) (table_left c.read_record.new.self) (start.table ∙ read.table) (sym c.in_ok-columns.ensures ∙ c.in_default.is)

pub returns-clause-ok : goal.returns-clause-ok
returns-clause-ok c =
    let start = c.reader_of-reader.ensures in
    let given = rw c.in-Ok-true.field-0-test at (c.in-Ok-true.ensures.reads start.reading.trim start.reading.ready) in
    let read = read-more c.reader_of-reader.result c.read_record.new.self (fields_of c.read_record.new.row) start.reading given (c.in-Ok-true.ensures.ready start.reading.trim) (c.in-Ok-true.ensures.flexible ∙ start.reading.flexible) in
    let same = rows_in-rows (option_map (λ s. s.now) c.args.structure) c.args.block c.args.fields c.args.text.now (texts_of c.read_record.new.row) (table_left c.read_record.new.self) c.in-Some.columns (start.table ∙ read.table) (sym c.in_ok-columns.ensures ∙ c.in-Some.is) in
    subst (λ meaning. IfOk c.rows_left.result (λ rows. meaning ≡ Ok rows)) (sym same) c.rows_left.ensures.ok

pub returns-clause-err : goal.returns-clause-err
returns-clause-err c =
    let start = c.reader_of-reader.ensures in
    let given = rw c.in-Ok-true.field-0-test at (c.in-Ok-true.ensures.reads start.reading.trim start.reading.ready) in
    let read = read-more c.reader_of-reader.result c.read_record.new.self (fields_of c.read_record.new.row) start.reading given (c.in-Ok-true.ensures.ready start.reading.trim) (c.in-Ok-true.ensures.flexible ∙ start.reading.flexible) in
    let same = rows_in-rows (option_map (λ s. s.now) c.args.structure) c.args.block c.args.fields c.args.text.now (texts_of c.read_record.new.row) (table_left c.read_record.new.self) c.in-Some.columns (start.table ∙ read.table) (sym c.in_ok-columns.ensures ∙ c.in-Some.is) in
    subst (λ meaning. IfErr c.rows_left.result (Refuses meaning)) (sym same) c.rows_left.ensures.err
