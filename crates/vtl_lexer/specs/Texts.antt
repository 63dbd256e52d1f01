-- The tokens of a text (docs/language.md, "Tokens").
use Rattle.std.specs.Prelude.{ℕ, zero, suc, ◌-◌, List, [], ◌∷◌, ◌++◌, Option, Some, None, Result, Ok, Err}
use Rattle.vtl_values.specs.declared.place.Place.{Place}
use Rattle.vtl_tokens.specs.declared.token.Token.{Token}
use Rattle.vtl_tokens.specs.declared.token.TokenKind.{TokenKind}
use Rattle.vtl_tokens.specs.declared.token.TokenKind.TheVariants.{End}
use Rattle.vtl_lexer.specs.declared.stop.LexFault.{LexFault}
use Rattle.vtl_lexer.specs.Pieces.{Piece, piece_of}
use Rattle.vtl_lexer.specs.Places.{place_at, place_behind}

-- the tokens, or the first fault and its place
abbrev pub Lexed : Type 0
Lexed = Result (List Token) (LexFault × Place)

abbrev pub token_at : Place → TokenKind → Token
token_at place kind = record { what = kind; place = place }

-- the token of a piece, if it is one
abbrev pub tokens_in : Place → Option TokenKind → List Token
tokens_in place None = []
tokens_in place (Some kind) = token_at place kind ∷ []

-- these tokens, and then those
abbrev pub joined : List Token → Lexed → Lexed
joined before (Ok after) = Ok (before ++ after)
joined before (Err fault) = Err fault

-- a piece, and then what is read after so many bytes
abbrev pub piece_then : Place → Result Piece LexFault → (ℕ → Lexed) → Lexed
piece_then place (Err fault) behind = Err (fault, place)
piece_then place (Ok piece) behind = joined (tokens_in place piece.0) (behind piece.1)

-- the tokens of a text that begins at this place, once so many bytes are passed
abbrev pub tokens_from : ℕ → Place → List ℕ → Lexed
tokens_from passed place [] = Ok (token_at place End ∷ [])
tokens_from (suc passed) place (b ∷ bs) = tokens_from passed (place_behind place b) bs
tokens_from zero place (b ∷ bs) = piece_then place (piece_of (b ∷ bs)) (λ n. tokens_from (n - 1) (place_behind place b) bs)

-- the tokens of a text
abbrev pub tokens_of : List ℕ → Lexed
tokens_of text = tokens_from 0 (place_at 1 1) text
