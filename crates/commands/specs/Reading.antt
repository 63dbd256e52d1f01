-- The stages of the words and the files.
use Rattle.std.specs.Prelude.{ℕ, nat_le, List, length, Option, Some, None, Ok, Err, if◌then◌else◌}
use Rattle.outside.specs.Shelves.{Files}
use Rattle.commands.specs.declared.reading.TheConstants.{SCRIPT_LIMIT, STRUCTURES_LIMIT, FEED_LIMIT}
use Rattle.commands.specs.Stages.{Stage, after}
use Rattle.commands.specs.Lines.{unread, too_long}
use Rattle.commands.specs.declared.words.Command.{Command}
use Rattle.commands.specs.declared.words.Command.TheVariants as command
use Rattle.commands.specs.declared.words.ScriptFiles.{ScriptFiles}
use Rattle.commands.specs.Words.{command_of}

-- a file's bytes, if it is there and isn't longer than its limit
abbrev pub file : Files → List ℕ → ℕ → Stage (List ℕ)
file files name limit = found (files name)
  where
    found : Option (List ℕ) → Stage (List ℕ)
    found None = Err (unread name)
    found (Some bytes) = if nat_le (length bytes) limit then Ok bytes else Err (too_long name limit)

-- the bytes of a script and of its structure file
pub record ScriptBytes : Type 0 where
  pub script : List ℕ
  pub structures : List ℕ

-- a command and the bytes of its files
pub data CommandBytes : Type 0 where
  Check : ScriptBytes → CommandBytes
  Eval : ScriptBytes → List ℕ → CommandBytes

-- the script, and then its structures
abbrev pub script_bytes : ScriptFiles → Files → Stage ScriptBytes
script_bytes names files =
    after (file files names.script SCRIPT_LIMIT) (λ script.
    after (file files names.structures STRUCTURES_LIMIT) (λ structures.
    Ok (record { script = script; structures = structures })))

-- the files in the order of the words
abbrev pub files_of : Command → Files → Stage CommandBytes
files_of (command.Check names) files = after (script_bytes names files) (λ bytes. Ok (Check bytes))
files_of (command.Eval names feed) files = after (script_bytes names files) (λ bytes. after (file files feed FEED_LIMIT) (λ rows. Ok (Eval bytes rows)))

-- the words, and then the files
abbrev pub bytes_of : List (List ℕ) → Files → Stage CommandBytes
bytes_of words files = after (command_of words) (λ command. files_of command files)
