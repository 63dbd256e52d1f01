-- What the lexer reads of a text.
use Rattle.std.specs.Prelude.{◌≡◌, ℕ, List, [], ◌∷◌, ◌++◌, Ok, Err}
use Rattle.std.specs.List.{All}
use Rattle.vtl_tokens.specs.declared.token.TokenKind.{TokenKind}
use Rattle.vtl_tokens.specs.declared.token.TokenKind.TheVariants.{End}
use Rattle.vtl_lexer.specs.Texts.{Lexed, tokens_of}
use Rattle.vtl_lexer.specs.Tokens.{IsToken, kinds_of}

-- these kinds are read, and then the end
abbrev pub ReadsAs : List TokenKind → Lexed → Type 0
ReadsAs kinds (Ok tokens) = kinds_of tokens ≡ kinds ++ End ∷ []
ReadsAs kinds (Err fault) = ⊥

-- the text is read as these kinds, wherever texts have each of them
abbrev pub AreReadBack : List TokenKind → List ℕ → Type 0
AreReadBack kinds text = All IsToken kinds → ReadsAs kinds (tokens_of text)
