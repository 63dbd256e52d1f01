-- The rows of a block (docs/formats.md, "Feeds").
use Rattle.std.specs.Prelude.{◌==◌, ◌+◌, ℕ, not, ◌||◌, nat_lt, if◌then◌else◌, List, [], ◌∷◌, ◌++◌, length, map, Option, Some, None, Result, Ok, Err, codes}
use Rattle.std.specs.List.{slice_index_or}
use Rattle.point_sets.specs.declared.revision.Action.{Action}
use Rattle.point_sets.specs.declared.revision.Action.TheVariants.{Put, Remove}
use Rattle.point_sets.specs.declared.revision.RawField.{RawField}
use Rattle.point_sets.specs.declared.revision.RawField.TheVariants.{Empty, Given}
use Rattle.point_sets.specs.declared.revision.RawRow.{RawRow}
use Rattle.vtl_values.specs.Texts.{same_text}
use Rattle.revision_files.specs.declared.columns.Columns.{Columns}
use Rattle.revision_files.specs.declared.rows.BlockRows.{BlockRows}
use Rattle.revision_files.specs.declared.stop.FeedFault.{FeedFault}
use Rattle.revision_files.specs.declared.stop.FeedFault.TheVariants.{FieldCount, BadAction, TooMany}
use Rattle.revision_files.specs.Answers.{◌>>=◌, or_fault}

-- the most rows of a block, and the most fields of a feed
abbrev pub MOST_ROWS : ℕ
MOST_ROWS = 200000

abbrev pub MOST_FIELDS : ℕ
MOST_FIELDS = 8000000

-- a field as it was written
abbrev pub raw_field : List ℕ → RawField
raw_field [] = Empty
raw_field (c ∷ text) = Given (c ∷ text)

abbrev pub action_of : List ℕ → Option Action
action_of text = if same_text text (codes "put") then Some Put else if same_text text (codes "remove") then Some Remove else None

-- the text in a column of a record
abbrev pub text_in : List (List ℕ) → ℕ → List ℕ
text_in texts column = slice_index_or texts column []

abbrev pub row_with : Columns → List (List ℕ) → Action → RawRow
row_with columns texts action = record { action = action; fields = map (λ column. raw_field (text_in texts column)) columns.fields }

-- how many fields a row counts: the columns without that of the action
abbrev pub fields_counted : Columns → ℕ
fields_counted columns = length columns.fields

-- a further row of this block: TooMany, then FieldCount, then BadAction
abbrev pub next_row : ℕ → Columns → BlockRows → List (List ℕ) → Result BlockRows FeedFault
next_row block columns before texts =
    let row = length before.rows + 1 in
    let fields = before.fields + fields_counted columns in
    if nat_lt MOST_ROWS row || nat_lt MOST_FIELDS fields then Err (TooMany block row)
    else if not (length texts == columns.width) then Err (FieldCount block row)
    else or_fault (BadAction block row) (action_of (text_in texts columns.action))
    >>= (λ action. Ok (record { rows = before.rows ++ row_with columns texts action ∷ []; fields = fields }))
