-- The text of a feed as it is written, and which revisions can be written so (docs/formats.md, "Feeds").
use Rattle.std.specs.Prelude.{◌≡◌, ◌≢◌, ◌==◌, ◌≤◌, ℕ, length, sum, replicate, map, Bool, true, false, ◌&&◌, ◌||◌, if◌then◌else◌, List, [], ◌∷◌, ◌++◌, Option, Some, None, codes, encode_utf8_all, ⊤}
use Rattle.std.specs.List.{All, flat_map, list_any, sum_by}
use Rattle.std.specs.Str.{all_scalars}
use Rattle.csv.specs.Writing.{default_writer, row_text}
use Rattle.vtl_values.specs.declared.structure.Component.{Component}
use Rattle.vtl_values.specs.Structures.{NamedStructures, structure_of}
use Rattle.point_sets.specs.declared.revision.Action.{Action}
use Rattle.point_sets.specs.declared.revision.Action.TheVariants.{Put, Remove}
use Rattle.point_sets.specs.declared.revision.Part.{Part}
use Rattle.point_sets.specs.declared.revision.RawField.{RawField}
use Rattle.point_sets.specs.declared.revision.RawField.TheVariants.{Empty, Given}
use Rattle.point_sets.specs.declared.revision.RawRow.{RawRow}
use Rattle.point_sets.specs.declared.revision.Revision.{Revision}
use Rattle.revision_files.specs.Blocks.{AT_SIGN, CARRIAGE_RETURN, LINE_FEED, PLUS, SPACE, begins_with, is_blank, is_line_feed}
use Rattle.revision_files.specs.Columns.{ACTION, all_differ, names_of}
use Rattle.revision_files.specs.Feeds.{MOST_BLOCKS, fields_of}
use Rattle.revision_files.specs.Rows.{MOST_FIELDS, MOST_ROWS}
use Rattle.revision_judge.specs.Fields.{text_in}

-- ---- the text

-- what the first character passes, and what the last one passes
abbrev pub begins : (ℕ → Bool) → List ℕ → Bool
begins p [] = false
begins p (c ∷ text) = p c

abbrev pub ends : (ℕ → Bool) → List ℕ → Bool
ends p [] = false
ends p (c ∷ []) = p c
ends p (c ∷ d ∷ text) = ends p (d ∷ text)

-- the word of an action
abbrev pub word_of : Action → List ℕ
word_of Put = codes "put"
word_of Remove = codes "remove"

-- a row's texts: its action, and then its fields
abbrev pub row_texts : RawRow → List (List ℕ)
row_texts row = word_of row.action ∷ map text_in row.fields

-- how many fields the first of the rows has
abbrev pub first_width : List RawRow → ℕ
first_width [] = 0
first_width (row ∷ rows) = length row.fields

-- the names of the columns after that of the action: of a known data set those of its components; of another one as many
-- columns as its rows have fields, without a name
abbrev pub other_names : Option (List Component) → List RawRow → List (List ℕ)
other_names (Some components) rows = names_of components
other_names None rows = replicate (first_width rows) []

abbrev pub header_for : Option (List Component) → List RawRow → List (List ℕ)
header_for structure rows = ACTION ∷ other_names structure rows

-- the texts as the crate csv writes a record by default
abbrev pub record_text : List (List ℕ) → List ℕ
record_text texts = row_text default_writer (map encode_utf8_all texts)

-- the header of a part, and its rows
abbrev pub records_for : Option (List Component) → List RawRow → List (List (List ℕ))
records_for structure rows = header_for structure rows ∷ map row_texts rows

-- what stands before a name on its line: the plus of a further part; else, before a name that begins with a plus, a blank
abbrev pub before_name : Bool → List ℕ → List ℕ
before_name further name = if further then PLUS ∷ [] else if begins_with PLUS name then SPACE ∷ [] else []

-- and after it: a blank where it ends with a carriage return, which would belong to the line's end
abbrev pub after_name : List ℕ → List ℕ
after_name name = if ends (λ c. c == CARRIAGE_RETURN) name then SPACE ∷ [] else []

-- the line that starts a block, without the `@`
abbrev pub line_of : Bool → List ℕ → List ℕ
line_of further name = before_name further name ++ (encode_utf8_all name ++ after_name name)

-- the block of a part, without the `@` that starts it: the name of the data set on a line, and the records
abbrev pub block_for : NamedStructures → Bool → Part → List ℕ
block_for structures further part =
    line_of further part.set ++ LINE_FEED ∷ flat_map record_text (records_for (structure_of structures part.set) part.rows)

-- the blocks of a revision: each part after the first is a further one
abbrev pub blocks_for : NamedStructures → List Part → List (List ℕ)
blocks_for structures [] = []
blocks_for structures (part ∷ parts) = block_for structures false part ∷ map (block_for structures true) parts

-- the feed with these revisions
abbrev pub written_feed : NamedStructures → List Revision → List ℕ
written_feed structures revisions = flat_map (λ block. AT_SIGN ∷ block) (flat_map (λ revision. blocks_for structures revision.parts) revisions)

-- ---- what can be written

-- whether a line begins with `@`, where `fresh` says that a line begins at the start
abbrev pub starts_block : Bool → List ℕ → Bool
starts_block fresh [] = false
starts_block fresh (c ∷ text) = (fresh && (c == AT_SIGN)) || starts_block (c == LINE_FEED) text

-- a text of a record
pub record IsRecordText (text : List ℕ) : Type 0 where
  -- it is a list of characters, and so has a UTF-8
  pub characters : all_scalars text ≡ true
  -- no line in it after the first begins with `@`, since a block would start there, in quotes or not
  pub lines : starts_block false text ≡ false

-- a field of a row; one without a character is read as an empty one
abbrev pub IsField : RawField → Type 0
IsField Empty = ⊤
IsField (Given text) = (text ≢ []) × IsRecordText text

pub record IsRow (width : ℕ) (row : RawRow) : Type 0 where
  -- a field for each column but that of the action
  pub wide : length row.fields ≡ width
  pub fields : All IsField row.fields

-- a name of a data set, as one may stand on the line that starts a block
pub record IsOnLine (name : List ℕ) : Type 0 where
  -- it is a list of characters, and so has a UTF-8
  pub characters : all_scalars name ≡ true
  -- the line ends at the first line feed
  pub one_line : list_any is_line_feed name ≡ false
  -- blanks at the name's ends are dropped
  pub no_blank_first : begins is_blank name ≡ false
  pub no_blank_last : ends is_blank name ≡ false

-- the names of the columns of a known data set are such texts, and no name stands twice or is `:action`
abbrev pub AreColumns : Option (List Component) → Type 0
AreColumns (Some components) = All IsRecordText (names_of components) × (all_differ (ACTION ∷ names_of components) ≡ true)
AreColumns None = ⊤

pub record IsPart (structures : NamedStructures) (part : Part) : Type 0 where
  pub name : IsOnLine part.set
  pub columns : AreColumns (structure_of structures part.set)
  pub rows : All (IsRow (length (other_names (structure_of structures part.set) part.rows))) part.rows
  -- the limit of a block
  pub few : length part.rows ≤ MOST_ROWS

-- the parts of a revision: one at least, since a block begins a revision
abbrev pub AreParts : NamedStructures → List Part → Type 0
AreParts structures parts = (parts ≢ []) × All (IsPart structures) parts

-- revisions that can be written
pub record CanBeWritten (structures : NamedStructures) (revisions : List Revision) : Type 0 where
  pub each : All (λ revision. AreParts structures revision.parts) revisions
  -- the limits of a feed
  pub few_blocks : sum_by (λ revision. length revision.parts) revisions ≤ MOST_BLOCKS
  pub few_fields : sum (map fields_of revisions) ≤ MOST_FIELDS
