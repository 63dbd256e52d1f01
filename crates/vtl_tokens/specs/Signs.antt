-- Signs (docs/language.md, "Tokens").
use Rattle.std.specs.Prelude.{ℕ, List, codes}
use Rattle.vtl_tokens.specs.declared.sign.Sign.{Sign}
use Rattle.vtl_tokens.specs.declared.sign.Sign.TheVariants.{Arrow, Assign, Semicolon, Comma, LeftParen, RightParen, LeftBracket, RightBracket, LeftBrace, RightBrace, Plus, Minus, Star, Slash, Bars, Equal, NotEqual, LessThan, GreaterThan, AtMost, AtLeast, Hash, Colon}

-- how a sign is written
abbrev pub sign_text : Sign → List ℕ
sign_text Arrow = codes "<-"
sign_text Assign = codes ":="
sign_text Semicolon = codes ";"
sign_text Comma = codes ","
sign_text LeftParen = codes "("
sign_text RightParen = codes ")"
sign_text LeftBracket = codes "["
sign_text RightBracket = codes "]"
sign_text LeftBrace = codes "{"
sign_text RightBrace = codes "}"
sign_text Plus = codes "+"
sign_text Minus = codes "-"
sign_text Star = codes "*"
sign_text Slash = codes "/"
sign_text Bars = codes "||"
sign_text Equal = codes "="
sign_text NotEqual = codes "<>"
sign_text LessThan = codes "<"
sign_text GreaterThan = codes ">"
sign_text AtMost = codes "<="
sign_text AtLeast = codes ">="
sign_text Hash = codes "#"
sign_text Colon = codes ":"
