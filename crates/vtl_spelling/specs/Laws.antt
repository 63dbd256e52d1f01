-- The laws of spelling.
use Rattle.std.specs.Prelude.{◌≡◌, map}
use Rattle.vtl_syntax.specs.declared.script.Script.{Script}
use Rattle.vtl_grammar.specs.Marks.{Tokens}
use Rattle.vtl_grammar.specs.Scripts.{IsScript}
use Rattle.vtl_spelling.specs.Kinds.{Kinds}
use Rattle.vtl_spelling.specs.Scripts.{script_spelled}
use Rattle.vtl_spelling.specs.Placeless.{IsSameButPlaces}

-- the kinds of tokens in a row
abbrev pub kinds_of : Tokens → Kinds
kinds_of us = map (λ t. t.what) us

-- the tokens are that script, apart from places
abbrev pub IsScriptButPlaces : Script → Tokens → Type 0
IsScriptButPlaces s us = (t : Script) × IsScript t us × IsSameButPlaces t s

-- some tokens are that script, apart from places
abbrev pub IsOfGrammar : Script → Type 0
IsOfGrammar s = (us : Tokens) × IsScriptButPlaces s us

-- a script of the grammar is spelled by tokens that are it, apart from places
abbrev pub SpellsScripts : Type 0
SpellsScripts = (s : Script) (us : Tokens) → IsOfGrammar s → kinds_of us ≡ script_spelled s → IsScriptButPlaces s us

-- and there are such tokens
abbrev pub SomeSpelling : Type 0
SomeSpelling = (s : Script) → IsOfGrammar s → (us : Tokens) × IsScriptButPlaces s us × (kinds_of us ≡ script_spelled s)
