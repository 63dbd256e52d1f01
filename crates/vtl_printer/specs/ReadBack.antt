-- What is read of a text, and which scripts have one.
use Rattle.std.specs.Prelude.{◌≡◌, ℕ, List, [], ◌∷◌, ◌++◌, Ok, Err}
use Rattle.vtl_tokens.specs.declared.token.Token.{Token}
use Rattle.vtl_tokens.specs.declared.token.TokenKind.TheVariants.{End}
use Rattle.vtl_syntax.specs.declared.script.Script.{Script}
use Rattle.vtl_grammar.specs.Marks.{Tokens}
use Rattle.vtl_lexer.specs.Texts.{Lexed, tokens_of}
use Rattle.vtl_spelling.specs.Placeless.{IsSameButPlaces}
use Rattle.vtl_spelling.specs.Laws.{IsScriptButPlaces}
use Rattle.vtl_printer.specs.Shown.{shown}

-- these tokens are read, and then the end
abbrev pub IsReadAs : Tokens → Lexed → Type 0
IsReadAs us (Ok tokens) = (last : Token) × (last.what ≡ End) × (tokens ≡ us ++ last ∷ [])
IsReadAs us (Err fault) = ⊥

-- the text is that script, apart from places
abbrev pub IsText : Script → List ℕ → Type 0
IsText s text = (us : Tokens) × IsReadAs us (tokens_of text) × IsScriptButPlaces s us

-- some text is that script, apart from places
abbrev pub HasText : Script → Type 0
HasText s = (text : List ℕ) × IsText s text

-- scripts that are the same apart from places are printed alike
abbrev pub PrintsOnce : Type 0
PrintsOnce = (s t : Script) → IsSameButPlaces s t → shown s ≡ shown t
