-- The revisions of a feed, or its first fault (docs/formats.md, "Feeds").
use Rattle.std.specs.Prelude.{◌==◌, ◌+◌, ◌≤◌, ℕ, length, sum, Bool, ◌&&◌, nat_lt, if◌then◌else◌, List, [], ◌∷◌, ◌++◌, map, drop, Option, None, Result, Ok, Err, chars}
use Rattle.std.specs.Str.{is_utf8}
use Rattle.csv.specs.Reading.{default_config, records, strip_bom}
use Rattle.point_sets.specs.declared.revision.Part.{Part}
use Rattle.point_sets.specs.declared.revision.Revision.{Revision}
use Rattle.vtl_values.specs.declared.structure.Component.{Component}
use Rattle.vtl_values.specs.Structures.{NamedStructures, structure_of}
use Rattle.revision_files.specs.declared.columns.Columns.{Columns}
use Rattle.revision_files.specs.declared.rows.BlockRows.{BlockRows}
use Rattle.revision_files.specs.declared.stop.FeedFault.{FeedFault}
use Rattle.revision_files.specs.declared.stop.FeedFault.TheVariants.{NotUtf8, BadHeader, TooMany}
use Rattle.revision_files.specs.Answers.{◌>>=◌, or_fault, one_by_one}
use Rattle.revision_files.specs.Blocks.{Cut, cut, is_blank_text, after_line, is_further, set_of}
use Rattle.revision_files.specs.Columns.{columns_of}
use Rattle.revision_files.specs.Rows.{MOST_FIELDS, next_row}

-- the most blocks of a feed
abbrev pub MOST_BLOCKS : ℕ
MOST_BLOCKS = 100000

-- the revisions of the blocks so far, and how many blocks and fields there were
pub record Feed : Type 0 where
  pub revisions : List Revision
  pub blocks : ℕ
  pub fields : ℕ

-- the records of a block's text, each field as its characters
abbrev pub table_of : List ℕ → List (List (List ℕ))
table_of text = map (map chars) (records default_config (strip_bom text))

-- the first record is the header
abbrev pub columns_in : Option (List Component) → List (List (List ℕ)) → Option Columns
columns_in structure [] = None
columns_in structure (header ∷ rows) = columns_of structure header

-- the rows in the text of the block with this number, after so many fields of the blocks before it: BadHeader, then the
-- faults of its rows
abbrev pub rows_in : Option (List Component) → ℕ → ℕ → List ℕ → Result BlockRows FeedFault
rows_in structure number fields text = do
  columns ← or_fault (BadHeader number) (columns_in structure (table_of text))
  one_by_one (next_row number columns) (record { rows = []; fields = fields }) (drop 1 (table_of text))

-- a further part goes to the last revision, and any other begins a revision
abbrev pub join_last : List Revision → Part → List Revision
join_last [] part = []
join_last (revision ∷ []) part = record { parts = revision.parts ++ part ∷ [] } ∷ []
join_last (revision ∷ next ∷ revisions) part = revision ∷ join_last (next ∷ revisions) part

abbrev pub with_part : List Revision → Bool → Part → List Revision
with_part revisions further part = if further then join_last revisions part else revisions ++ (record { parts = part ∷ [] }) ∷ []

-- a further block: TooMany, then BadHeader where it is a further part and no block stands before it, then the faults of
-- its header and of its rows
abbrev pub next_block : NamedStructures → Feed → List ℕ → Result Feed FeedFault
next_block structures before block =
    let number = before.blocks + 1 in
    if nat_lt MOST_BLOCKS number then Err (TooMany number 0)
    else if is_further block && (before.blocks == 0) then Err (BadHeader number)
    else rows_in (structure_of structures (set_of block)) number before.fields (after_line block)
    >>= (λ rows. Ok (record { revisions = with_part before.revisions (is_further block) (record { set = set_of block; rows = rows.rows }); blocks = number; fields = rows.fields }))

abbrev pub no_blocks : Feed
no_blocks = record { revisions = []; blocks = 0; fields = 0 }

-- before the first block stands nothing but blank lines
abbrev pub blocks_of : NamedStructures → Cut → Result Feed FeedFault
blocks_of structures text = if is_blank_text text.before then one_by_one (next_block structures) no_blocks text.blocks else Err (BadHeader 0)

-- a text in UTF-8, without a byte order mark at its start, block by block
abbrev pub feed_of : NamedStructures → List ℕ → Result (List Revision) FeedFault
feed_of structures bytes = if is_utf8 bytes then blocks_of structures (cut (strip_bom bytes)) >>= (λ feed. Ok feed.revisions) else Err NotUtf8

-- the fields of all rows of a part, and of all parts of a revision
abbrev pub part_fields : Part → ℕ
part_fields part = sum (map (λ row. length row.fields) part.rows)

abbrev pub fields_of : Revision → ℕ
fields_of revision = sum (map part_fields revision.parts)

-- no more revisions than a feed may have blocks, and no more fields than it may have
pub record IsFew (revisions : List Revision) : Type 0 where
  pub revisions_few : length revisions ≤ MOST_BLOCKS
  pub fields_few : sum (map fields_of revisions) ≤ MOST_FIELDS
