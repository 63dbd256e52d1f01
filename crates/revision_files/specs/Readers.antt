-- What a reader of records has left.
use Rattle.std.specs.Prelude.{◌≡◌, ◌+◌, ℕ, Bool, true, false, List, [], Option, Some, length, map, chars, unwrap_or, IsUtf8, ⊤}
use Rattle.csv.specs.Reading.{Ready, default_config, is_flexible, reader_config, reader_state, reader_trim, records_from, source_of}
use Rattle.csv.specs.declared.parser.State.{State}
use Rattle.csv.specs.declared.parser.State.TheVariants as st
use Rattle.csv.specs.declared.reader.Reader.{Reader}
use Rattle.csv.specs.declared.reader.Trim.TheVariants as trim
use Rattle.csv.specs.declared.error.ErrorKind.{ErrorKind}
use Rattle.csv.specs.declared.error.ErrorKind.TheVariants as kind
use denote.Ref.{Bor}

-- the bytes that a reader of a text has left, if they are known
abbrev pub source : Reader (Bor (List ℕ)) → Option (List ℕ)
source reader = source_of (λ text. Some text.now) reader

abbrev pub left : Reader (Bor (List ℕ)) → List ℕ
left reader = unwrap_or (source reader) []

-- the records that it has left, each field as its characters
abbrev pub table_left : Reader (Bor (List ℕ)) → List (List (List ℕ))
table_left reader = map (map chars) (records_from default_config (length (left reader) + 1) (reader_state reader) (left reader))

-- whether the machine that reads records stands between two of them
abbrev pub is_between : State → Bool
is_between st.StartRecord = true
is_between st.AfterCr = true
is_between st.StartField = false
is_between st.InField = false
is_between st.InQuoted = false
is_between st.AfterQuote = false
is_between st.InEscape = false
is_between st.InComment = false

-- it stands between two records of a text in UTF-8, which is known, and reads as the crate does by default
pub record IsReading (reader : Reader (Bor (List ℕ))) : Type 0 where
  pub trim : reader_trim reader ≡ trim.None
  pub ready : Ready reader
  pub flexible : is_flexible reader ≡ true
  pub config : reader_config reader ≡ default_config
  pub known : source reader ≡ Some (left reader)
  pub text : IsUtf8 (left reader)
  pub between : is_between (reader_state reader) ≡ true

-- what goes wrong in reading memory is of the reader of bytes or for want of memory
abbrev pub IsOfMemory : ErrorKind → Type 0
IsOfMemory (kind.Io error) = ⊤
IsOfMemory kind.OutOfMemory = ⊤
IsOfMemory (kind.Utf8 place error) = ⊥
IsOfMemory (kind.UnequalLengths place expected length) = ⊥
IsOfMemory (kind.Serialize text) = ⊥
IsOfMemory (kind.Deserialize place error) = ⊥
