-- The tokens that texts have (docs/language.md, "Tokens").
use Rattle.std.specs.Prelude.{◌≡◌, ℕ, ◌<◌, IsTrue, false, List, [], ◌∷◌, ◌++◌, map, length, ℤ, ⊤}
use Rattle.std.specs.List.{All, list_any}
use Rattle.std.specs.Str.{all_scalars}
use Rattle.vtl_values.specs.Numerals.{is_negative}
use Rattle.vtl_values.specs.Ranges.{IsInteger, IsNumber}
use Rattle.vtl_tokens.specs.declared.token.Token.{Token}
use Rattle.vtl_tokens.specs.declared.token.TokenKind.{TokenKind}
use Rattle.vtl_tokens.specs.declared.token.TokenKind.TheVariants.{Name, Reserved, Text, Integer, Number, Sign, End}
use Rattle.vtl_lexer.specs.Scans.{ends_name}

-- a name can stand in single quotes
pub record IsName (name : List ℕ) : Type 0 where
  pub characters : IsTrue (all_scalars name)
  pub some : 0 < length name
  -- no single quote and no line end
  pub unbroken : list_any ends_name name ≡ false

-- a literal has no sign: `-1` is two tokens
pub record IsIntegerLiteral (value : ℤ) : Type 0 where
  pub unsigned : is_negative value ≡ false
  pub within : IsInteger value

pub record IsNumberLiteral (millionths : ℤ) : Type 0 where
  pub unsigned : is_negative millionths ≡ false
  pub within : IsNumber millionths

-- a token of this kind stands in some text. The end is none: it stands behind a text
abbrev pub IsToken : TokenKind → Type 0
IsToken (Name name) = IsName name
IsToken (Reserved word) = ⊤
IsToken (Text text) = IsTrue (all_scalars text)
IsToken (Integer value) = IsIntegerLiteral value
IsToken (Number millionths) = IsNumberLiteral millionths
IsToken (Sign sign) = ⊤
IsToken End = ⊥

-- what the tokens are, apart from their places
abbrev pub kinds_of : List Token → List TokenKind
kinds_of tokens = map (λ token. token.what) tokens

-- tokens that texts have, and then the one end
pub record AreOfText (tokens : List Token) : Type 0 where
  pub before : List TokenKind
  pub ended : kinds_of tokens ≡ before ++ End ∷ []
  pub each : All IsToken before
