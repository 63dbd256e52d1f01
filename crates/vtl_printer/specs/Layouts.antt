-- How tokens are laid out: one statement a line, and blanks as a person would write them.
use Rattle.std.specs.Prelude.{ℕ, Bool, true, false, not, ◌||◌, if◌then◌else◌, List, [], ◌∷◌, ◌++◌}
use Rattle.vtl_tokens.specs.declared.keyword.Keyword.{Keyword}
use Rattle.vtl_tokens.specs.declared.keyword.Keyword.TheVariants.{If, Then, Else, Or, Xor, And, Not, When, Is, Filter, Having, Imbalance, Over}
use Rattle.vtl_tokens.specs.declared.sign.Sign.TheVariants.{Semicolon, Comma, LeftParen, RightParen, LeftBracket, RightBracket, Hash, Colon}
use Rattle.vtl_tokens.specs.declared.token.TokenKind.{TokenKind}
use Rattle.vtl_tokens.specs.declared.token.TokenKind.TheVariants.{Name, Reserved, Sign}
use Rattle.vtl_lexer.specs.Starts.{LINE_END}
use Rattle.vtl_printer.specs.Spellings.{token_text}

abbrev pub BLANK : ℕ
BLANK = 32

-- a statement or a rule ends here
abbrev pub ends_line : TokenKind → Bool
ends_line (Sign Semicolon) = true
ends_line kind = false

-- what follows stands directly behind it
abbrev pub is_opening : TokenKind → Bool
is_opening (Sign LeftParen) = true
is_opening (Sign LeftBracket) = true
is_opening (Sign Hash) = true
is_opening kind = false

-- it stands directly behind what comes before
abbrev pub is_closing : TokenKind → Bool
is_closing (Sign Semicolon) = true
is_closing (Sign Comma) = true
is_closing (Sign RightParen) = true
is_closing (Sign RightBracket) = true
is_closing (Sign Hash) = true
is_closing (Sign Colon) = true
is_closing kind = false

-- a bracket behind the word stands round an expression, and is no call's
abbrev pub stands_apart : Keyword → Bool
stands_apart If = true
stands_apart Then = true
stands_apart Else = true
stands_apart Or = true
stands_apart Xor = true
stands_apart And = true
stands_apart Not = true
stands_apart When = true
stands_apart Is = true
stands_apart Filter = true
stands_apart Having = true
stands_apart Imbalance = true
stands_apart Over = true
stands_apart word = false

-- a call's word or name before its bracket
abbrev pub is_call : TokenKind → TokenKind → Bool
is_call (Reserved word) (Sign LeftParen) = not (stands_apart word)
is_call (Name name) (Sign LeftParen) = true
is_call before next = false

-- nothing stands between the two
abbrev pub is_joined : TokenKind → TokenKind → Bool
is_joined before next = is_opening before || (is_closing next || is_call before next)

-- what stands behind a token before these
abbrev pub gap : TokenKind → List TokenKind → List ℕ
gap before [] = if ends_line before then LINE_END ∷ [] else []
gap before (next ∷ kinds) = if ends_line before then LINE_END ∷ [] else if is_joined before next then [] else BLANK ∷ []

-- the text of these tokens
abbrev pub layout : List TokenKind → List ℕ
layout [] = []
layout (kind ∷ kinds) = token_text kind ++ (gap kind kinds ++ layout kinds)
