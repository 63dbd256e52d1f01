-- The words of the program (docs/formats.md, "Commands").
use Rattle.std.specs.Prelude.{◌==◌, ◌&&◌, ◌||◌, ◌%◌, ℕ, Bool, true, false, not, nat_le, List, [], ◌∷◌, length, if◌then◌else◌, Ok, Err, codes, chars, bytes_eq, ⊤}
use Rattle.std.specs.Str.{all_ascii_digits}
use Rattle.std.specs.List.{list_all}
use Rattle.std.specs.Str.Parse.{digits_value}
use Rattle.commands.specs.declared.reading.TheConstants.{SCRIPT_LIMIT, STRUCTURES_LIMIT, FEED_LIMIT}
use Rattle.commands.specs.declared.words.Command.{Command}
use Rattle.commands.specs.declared.words.Command.TheVariants.{Check, Eval}
use Rattle.commands.specs.declared.words.ScriptFiles.{ScriptFiles}
use Rattle.commands.specs.Stages.{Stage}
use Rattle.commands.specs.Lines.{not_built, usage}

-- a name isn't empty and doesn't begin with `-`
abbrev pub is_name : List ℕ → Bool
is_name [] = false
is_name (b ∷ bs) = not (b == 45)

-- decimal digits, with a zero before others nowhere
abbrev pub is_plain_number : List ℕ → Bool
is_plain_number [] = false
is_plain_number (d ∷ ds) = all_ascii_digits (d ∷ ds) && (not (d == 48) || (length ds == 0))

-- a number from the first of these to the second
abbrev pub is_number : ℕ → ℕ → List ℕ → Bool
is_number low high word = is_plain_number word && (nat_le low (digits_value 10 word) && nat_le (digits_value 10 word) high)

-- so many workers and readers may be asked for
abbrev pub is_workers : List ℕ → Bool
is_workers = is_number 1 64

abbrev pub is_readers : List ℕ → Bool
is_readers = is_number 0 64

-- `eval SCRIPT STRUCT FEED`
abbrev pub accepts_eval : List (List ℕ) → Bool
accepts_eval (word ∷ script ∷ structures ∷ feed ∷ []) = bytes_eq word (codes "eval") && (is_name script && (is_name structures && is_name feed))
accepts_eval other = false

-- `check SCRIPT STRUCT`
abbrev pub accepts_check : List (List ℕ) → Bool
accepts_check (word ∷ script ∷ structures ∷ []) = bytes_eq word (codes "check") && (is_name script && is_name structures)
accepts_check other = false

-- `session SCRIPT STRUCT SESSION WORKERS`
abbrev pub accepts_session : List (List ℕ) → Bool
accepts_session (word ∷ script ∷ structures ∷ session ∷ workers ∷ []) =
    bytes_eq word (codes "session") && (is_name script && (is_name structures && (is_name session && is_workers workers)))
accepts_session other = false

-- 1 to 64 feeds
abbrev pub are_feeds : List (List ℕ) → Bool
are_feeds feeds = nat_le 1 (length feeds) && (nat_le (length feeds) 64 && list_all is_name feeds)

-- `produce SCRIPT STRUCT WORKERS READERS FEED ..`
abbrev pub accepts_produce : List (List ℕ) → Bool
accepts_produce (word ∷ script ∷ structures ∷ workers ∷ readers ∷ feeds) =
    bytes_eq word (codes "produce") && (is_name script && (is_name structures && (is_workers workers && (is_readers readers && are_feeds feeds))))
accepts_produce other = false

-- a multiple of 20 from 20 to 120,000
abbrev pub is_count : List ℕ → Bool
is_count word = is_number 20 120000 word && (digits_value 10 word % 20 == 0)

-- `make SEED COUNT WORKERS`
abbrev pub accepts_make : List (List ℕ) → Bool
accepts_make (word ∷ seed ∷ count ∷ workers ∷ []) = bytes_eq word (codes "make") && (is_number 0 999999 seed && (is_count count && is_workers workers))
accepts_make other = false

-- a command that isn't built yet
abbrev pub is_unbuilt : List (List ℕ) → Bool
is_unbuilt words = accepts_session words || (accepts_produce words || accepts_make words)

abbrev pub script_files : List ℕ → List ℕ → ScriptFiles
script_files script structures = record { script = chars script; structures = chars structures }

abbrev pub eval_of : List (List ℕ) → Stage Command
eval_of (word ∷ script ∷ structures ∷ feed ∷ []) = Ok (Eval (script_files script structures) (chars feed))
eval_of other = Err usage

abbrev pub check_of : List (List ℕ) → Stage Command
check_of (word ∷ script ∷ structures ∷ []) = Ok (Check (script_files script structures))
check_of other = Err usage

-- the command that the words are: one that is built, one that isn't, or none
abbrev pub command_of : List (List ℕ) → Stage Command
command_of words = if accepts_eval words then eval_of words else if accepts_check words then check_of words else if is_unbuilt words then Err not_built else Err usage

-- the command runs a script over revisions
abbrev pub IsRun : Command → Type 0
IsRun (Check names) = ⊥
IsRun (Eval names feed) = ⊤

-- the words are one that does
abbrev pub Runs : Stage Command → Type 0
Runs (Ok command) = IsRun command
Runs (Err end) = ⊥

-- a file that a command reads, and the most bytes that it may have
pub record FileLimit : Type 0 where
  pub name : List ℕ
  pub limit : ℕ

abbrev pub within : List ℕ → ℕ → FileLimit
within name limit = record { name = name; limit = limit }

-- a script, its structures, and these
abbrev pub with_script : ScriptFiles → List FileLimit → List FileLimit
with_script names others = within names.script SCRIPT_LIMIT ∷ within names.structures STRUCTURES_LIMIT ∷ others

-- the files that an accepted command names, in the order in which they are read
abbrev pub named : Command → List FileLimit
named (Check names) = with_script names []
named (Eval names feed) = with_script names (within feed FEED_LIMIT ∷ [])

-- the files that the words name, where they are a command that is built
abbrev pub files_named : Stage Command → List FileLimit
files_named (Ok command) = named command
files_named (Err end) = []
