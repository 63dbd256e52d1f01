-- Scripts, as the parser reads them piece by piece.
use Rattle.std.specs.Prelude.{◌≡◌, ◌≤◌, ◌<◌, ℕ, ◌-◌, suc, length, List, ◌++◌, Result, Ok, Err}
use Rattle.vtl_syntax.specs.declared.script.Script.{Script}
use Rattle.vtl_grammar.specs.Marks.{Tokens}
use Rattle.vtl_grammar.specs.Scripts as kinds
use Rattle.vtl_grammar.specs.Scripts.{Piece, all_of_kind}
use Rattle.vtl_grammar.specs.Reading.{Read, got}
use Rattle.vtl_grammar.specs.ScriptReading.{Left, total, kind_at, told, definitions, read_pieces, read_script}
use Rattle.vtl_grammar.specs.Laws.{read_whole}
use Rattle.vtl_cursor.specs.declared.stop.Stop.{Stop}
use Rattle.vtl_cursor.specs.Limits.{limits}
use Rattle.vtl_cursor.specs.Views.{Fails}
use Rattle.vtl_parser.specs.declared.script.PieceKind.{PieceKind}
use Rattle.vtl_parser.specs.declared.script.PieceKind.TheVariants as kind

-- what was read, seen by f, without its levels
abbrev pub levelless : {A B : Type 0} → (A → B) → Read A → Read B
levelless f (Ok a) = got (f a.value) 0 a.rest
levelless f (Err e) = Err e

-- a kind of the grammar
abbrev pub piece_kind : PieceKind → kinds.PieceKind
piece_kind kind.Statement = kinds.a_statement
piece_kind kind.Ruleset = kinds.a_ruleset
piece_kind kind.Operator = kinds.an_operator

-- the script and the pieces after it
abbrev pub added : Script → List Piece → Script
added s ps = record {
  statements = s.statements ++ all_of_kind kinds.a_statement ps;
  rulesets = s.rulesets ++ all_of_kind kinds.a_ruleset ps;
  operators = s.operators ++ all_of_kind kinds.an_operator ps;
}

-- how many pieces may still come
abbrev pub left_of : Script → Left
left_of s kinds.a_statement = 256 - length s.statements
left_of s kinds.a_ruleset = 64 - length s.rulesets
left_of s kinds.an_operator = 64 - length s.operators

-- the script that begins with this, and whose other pieces are still to be read
unfoldable pub remaining : ℕ → Script → Tokens → Read Script
remaining d s ts = levelless (added s) (read_pieces limits d (suc (total (left_of s))) (left_of s) ts)

-- no more pieces than there may be
pub record HasRoom (s : Script) : Type 0 where
  pub statements : length s.statements ≤ 256
  pub rulesets : length s.rulesets ≤ 64
  pub operators : length s.operators ≤ 64

-- one more piece was read
pub record IsStep (d : ℕ) (before after : Script) (from to : Tokens) : Type 0 where
  pub same : remaining d before from ≡ remaining d after to
  pub few : HasRoom after
  pub less : total (left_of after) < total (left_of before)

-- one more piece was read, or reading stops as it does there
abbrev pub Advances : ℕ → Script → Script → Tokens → Tokens → Result Unit Stop → Type 0
Advances d before after from to (Ok u) = IsStep d before after from to
Advances d before after from to (Err e) = Fails to e (remaining d before from)

-- a piece of that kind begins there, and one more may come
abbrev pub Begins : PieceKind → Script → Tokens → Type 0
Begins k s ts = (0 < left_of s (piece_kind k)) × ((rest : Tokens) × (kind_at (left_of s) ts ≡ got (piece_kind k) 0 rest))

-- the kind of the piece that begins there, or where its reading stops
abbrev pub TellsKind : Script → Tokens → Tokens → Result PieceKind Stop → Type 0
TellsKind s from to (Ok k) = (to ≡ from) × Begins k s from
TellsKind s from to (Err e) = Fails to e (kind_at (left_of s) from)

-- the same of a definition, by what stands after its first word
abbrev pub TellsDefinition : Script → Tokens → Result PieceKind Stop → Type 0
TellsDefinition s ts (Ok k) = (0 < left_of s (piece_kind k)) × (told (left_of s) definitions ts ≡ got (piece_kind k) 0 ts)
TellsDefinition s ts (Err e) = Fails ts e (told (left_of s) definitions ts)

-- a script, read without its levels
unfoldable pub script_read : ℕ → Tokens → Read Script
script_read d ts = levelless (λ v. v) (read_script limits d ts)

-- the same within the limits of the language
unfoldable pub whole_read : Tokens → Read Script
whole_read ts = levelless (λ v. v) (read_whole ts)
