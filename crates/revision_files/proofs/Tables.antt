-- The rows of a block, from its records.
use Rattle.std.proofs.Common.{◌≡◌, ◌+◌, ℕ, List, [], ◌∷◌, length, map, drop, Bor, Option, Some, None, Result, Ok, Err, refl, sym, ap, ◌∙◌}
use Rattle.std.specs.Str.{chars}
use Rattle.csv.specs.Reading.{default_config, reader_state, records, records_from, strip_bom}
use Rattle.csv.specs.declared.parser.State.TheVariants as st
use Rattle.csv.specs.declared.reader.Reader.{Reader}
use Rattle.vtl_values.specs.declared.structure.Component.{Component}
use Rattle.revision_files.specs.declared.columns.Columns.{Columns}
use Rattle.revision_files.specs.declared.rows.BlockRows.{BlockRows}
use Rattle.revision_files.specs.declared.stop.FeedFault.{FeedFault}
use Rattle.revision_files.specs.declared.stop.FeedFault.TheVariants.{BadHeader}
use Rattle.revision_files.specs.declared.stop.FeedStop.{FeedStop}
use Rattle.revision_files.specs.Answers.{◌>>=◌, Refuses, one_by_one, or_fault}
use Rattle.revision_files.specs.Columns.{columns_of}
use Rattle.revision_files.specs.Feeds.{columns_in, rows_in, table_of}
use Rattle.revision_files.specs.Readers.{left, table_left}
use Rattle.revision_files.specs.Rows.{next_row}
use Rattle.revision_files.proofs.Steps.{stops_same}

-- the rows of records of which the first is the header
abbrev rows_by : Option (List Component) → ℕ → ℕ → List (List (List ℕ)) → Result BlockRows FeedFault
rows_by structure number fields table = or_fault (BadHeader number) (columns_in structure table) >>= (λ columns. one_by_one (next_row number columns) (record { rows = []; fields = fields }) (drop 1 table))

abbrev rows_with : ℕ → ℕ → List (List (List ℕ)) → Option Columns → Result BlockRows FeedFault
rows_with number fields rows columns = or_fault (BadHeader number) columns >>= (λ columns. one_by_one (next_row number columns) (record { rows = []; fields = fields }) rows)

pub rows_in-bare : (structure : Option (List Component)) (number fields : ℕ) (text : List ℕ) → table_of text ≡ [] → rows_in structure number fields text ≡ Err (BadHeader number)
rows_in-bare structure number fields text is = ap (rows_by structure number fields) is

pub rows_in-misfit : (structure : Option (List Component)) (number fields : ℕ) (text : List ℕ) (header : List (List ℕ)) (rows : List (List (List ℕ))) → table_of text ≡ header ∷ rows → columns_of structure header ≡ None → rows_in structure number fields text ≡ Err (BadHeader number)
rows_in-misfit structure number fields text header rows is none = ap (rows_by structure number fields) is ∙ ap (rows_with number fields rows) none

pub rows_in-rows : (structure : Option (List Component)) (number fields : ℕ) (text : List ℕ) (header : List (List ℕ)) (rows : List (List (List ℕ))) (columns : Columns) → table_of text ≡ header ∷ rows → columns_of structure header ≡ Some columns
    → rows_in structure number fields text ≡ one_by_one (next_row number columns) (record { rows = []; fields = fields }) rows
rows_in-rows structure number fields text header rows columns is some = ap (rows_by structure number fields) is ∙ ap (rows_with number fields rows) some

-- a new reader of a text has all of its records left
pub table_of-new : (reader : Reader (Bor (List ℕ))) (text : List ℕ) → reader_state reader ≡ st.StartRecord → left reader ≡ strip_bom text → table_of text ≡ table_left reader
table_of-new reader text state rest = λ i. map (map chars) (records_from default_config (length (sym rest i) + 1) (sym state i) (sym rest i))
