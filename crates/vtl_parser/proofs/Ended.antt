-- What is read of a text has its one end.
use Rattle.std.proofs.Common.{◌≡◌, List}
use Rattle.std.proofs.lemmas.List.Elements.{All-weaker}
use Rattle.vtl_tokens.specs.declared.token.Token.{Token}
use Rattle.vtl_tokens.specs.declared.token.TokenKind.{TokenKind}
use Rattle.vtl_tokens.specs.declared.token.TokenKind.TheVariants.{Name, Reserved, Text, Integer, Number, Sign, End}
use Rattle.vtl_lexer.specs.Tokens.{IsToken, AreOfText}
use Rattle.vtl_parser.specs.Parses.{IsEnded}

not-end : (kind : TokenKind) → IsToken kind → kind ≡ End → ⊥
not-end (Name name) is e = absurd cc
not-end (Reserved word) is e = absurd cc
not-end (Text text) is e = absurd cc
not-end (Integer value) is e = absurd cc
not-end (Number millionths) is e = absurd cc
not-end (Sign sign) is e = absurd cc
not-end End is e = is

-- the tokens of a text are such that the parser takes them
pub ended : (tokens : List Token) → AreOfText tokens → IsEnded tokens
ended tokens are = (are.before, are.ended, All-weaker IsToken (λ kind. kind ≡ End → ⊥) not-end are.before are.each)
