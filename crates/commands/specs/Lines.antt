-- The lines of the program before it runs anything (docs/formats.md, "Output").
use Rattle.std.specs.Prelude.{ℕ, List, ◌++◌, codes, decimal, encode_utf8_all}
use Rattle.round_runs.specs.Answers.{Answer}
use Rattle.round_runs.specs.Lines.{line}

-- what isn't built yet
abbrev pub not_built : Answer
not_built = record { status = 4; text = codes "not built\n" }

-- words that no command accepts
abbrev pub usage : Answer
usage = record { status = 1; text = codes "usage: vtlprod eval, check, session, produce or make\n" }

-- a file that can't be read
abbrev pub unread : List ℕ → Answer
unread name = record { status = 2; text = line (codes "read " ++ encode_utf8_all name) }

-- a file with more bytes than its limit
abbrev pub too_long : List ℕ → ℕ → Answer
too_long name limit = record { status = 2; text = line (codes "too long " ++ encode_utf8_all name ++ codes " " ++ decimal limit) }
