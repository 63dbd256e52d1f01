use Rattle.std.proofs.Common.{◌≡◌, [], ◌∷◌, ap, sym, ◌∙◌}
use Rattle.csv.specs.Records.{fields_of}
use Rattle.revision_files.specs.Answers.{one_by_one}
use Rattle.revision_files.specs.Readers.{table_left}
use Rattle.revision_files.specs.Rows.{next_row}
use Rattle.revision_files.specs.Texts.{texts_of}
use Rattle.revision_files.proofs.Reading.{read-more, read-none, why-memory}
use Rattle.revision_files.proofs.Steps.{one_read, passed_on, stops, stops_same}
use Rattle.revision_files.proofs.table.rows_left.Goals as goal

pub stop_of-requires : goal.stop_of-requires
stop_of-requires c =
    let kept = c.loop-record.invariant in
    let step = rw (c.in-Some.is, c.in-Err.is) at (c.next.ensures.steps kept.1 kept.0.trim) in
    why-memory c.loop-record.record-iterator.rdr c.next.new.self.rdr _ kept.0 (step.0 kept.0.ready)

pub returns-in_err-rows-in-Ok-clause-err : goal.returns-in_err-rows-in-Ok-clause-err
returns-in_err-rows-in-Ok-clause-err c =
    let kept = c.loop-record.invariant in
    let step = rw (c.in-Some.is, c.in-Ok.is) at (c.next.ensures.steps kept.1 kept.0.trim) in
    let given = step.0 kept.0.ready in
    let read = read-more c.loop-record.record-iterator.rdr c.next.new.self.rdr (fields_of c.in-Ok.record) kept.0 given.0 given.1 (step.3 ∙ kept.0.flexible) in
    let next = next_row c.args.block c.args.columns.now in
    passed_on _ c.from_residual.result c.in_err-rows-in-Ok.field-0.0
    (stops_same (one_by_one next c.loop-record.rows (table_left c.loop-record.record-iterator.rdr)) _ c.in_err-rows-in-Ok.field-0.0 (sym kept.2)
    (stops_same (one_by_one next c.loop-record.rows (texts_of c.in-Ok.record ∷ table_left c.next.new.self.rdr)) _ c.in_err-rows-in-Ok.field-0.0 (ap (one_by_one next c.loop-record.rows) (sym read.table))
    (stops next c.loop-record.rows (texts_of c.in-Ok.record) (table_left c.next.new.self.rdr) c.in_err-rows-in-Ok.field-0.0 c.in_err-rows-in-Ok.ensures.err)))
    c.from_residual.ensures.1

pub loop-record-preserved : goal.loop-record-preserved
loop-record-preserved c =
    let kept = c.loop-record.invariant in
    let step = rw (c.in-Some.is, c.in-Ok.is) at (c.next.ensures.steps kept.1 kept.0.trim) in
    let given = step.0 kept.0.ready in
    let read = read-more c.loop-record.record-iterator.rdr c.next.new.self.rdr (fields_of c.in-Ok.record) kept.0 given.0 given.1 (step.3 ∙ kept.0.flexible) in
    let next = next_row c.args.block c.args.columns.now in (
      read.reading,
      given.3,
      kept.2
          ∙ (ap (one_by_one next c.loop-record.rows) read.table
          ∙ one_read next c.loop-record.rows c.in_ok-rows-in-Ok.rows (texts_of c.in-Ok.record) (table_left c.next.new.self.rdr) c.in_ok-rows-in-Ok.ensures.ok),
      c.in_ok-rows-in-Ok.ensures.few,
    )

pub returns-clause-ok : goal.returns-clause-ok
returns-clause-ok c =
    let kept = c.loop-record.invariant in
    let step = rw c.in-None.is at (c.next.ensures.steps kept.1 kept.0.trim) in
    let next = next_row c.args.block c.args.columns.now in
    kept.2 ∙ ap (one_by_one next c.loop-record.rows) (read-none c.loop-record.record-iterator.rdr c.next.new.self.rdr [] kept.0 (step.0 kept.0.ready))
