-- Signs are read back.
use Rattle.std.proofs.Common.{◌≡◌, ℕ, true, List, [], ◌∷◌, refl}
use Rattle.vtl_tokens.specs.declared.sign.Sign.{Sign as SignOf}
use Rattle.vtl_tokens.specs.declared.sign.Sign.TheVariants.{Arrow, LeftParen, LeftBracket, Hash}
use Rattle.vtl_tokens.specs.declared.token.TokenKind.{TokenKind}
use Rattle.vtl_tokens.specs.declared.token.TokenKind.TheVariants.{Sign}
use Rattle.vtl_tokens.specs.Signs.{sign_text}
use Rattle.vtl_lexer.specs.Scans.{sign_of}
use Rattle.vtl_lexer.specs.Pieces.{sign_piece}
use Rattle.vtl_printer.specs.Layouts.{is_opening}
use Rattle.vtl_printer.specs.Spellings.{token_text}
use Rattle.vtl_printer.proofs.Fronts.{Rest, bytes, nothing, blank, line_end, semicolon, comma, left_paren, right_paren, right_bracket, hash, colon}
use Rattle.vtl_printer.proofs.Words.{Reads}

-- the sign is read before these bytes
abbrev ReadsSign : List ℕ → SignOf → Type 0
ReadsSign rest sign = Reads (sign_text sign) rest (Sign sign)

pub sign_read : (sign : SignOf) (rest : Rest) → Reads (sign_text sign) (bytes rest) (Sign sign)
unfolding sign_piece sign_of
sign_read sign nothing = elim sign as (ReadsSign []) [ Arrow ↦ refl | _ ↦ refl ]
sign_read sign (blank more) = elim sign as (ReadsSign (32 ∷ more)) [ Arrow ↦ refl | _ ↦ refl ]
sign_read sign (line_end more) = elim sign as (ReadsSign (10 ∷ more)) [ Arrow ↦ refl | _ ↦ refl ]
sign_read sign (semicolon more) = elim sign as (ReadsSign (59 ∷ more)) [ Arrow ↦ refl | _ ↦ refl ]
sign_read sign (comma more) = elim sign as (ReadsSign (44 ∷ more)) [ Arrow ↦ refl | _ ↦ refl ]
sign_read sign (left_paren more) = elim sign as (ReadsSign (40 ∷ more)) [ Arrow ↦ refl | _ ↦ refl ]
sign_read sign (right_paren more) = elim sign as (ReadsSign (41 ∷ more)) [ Arrow ↦ refl | _ ↦ refl ]
sign_read sign (right_bracket more) = elim sign as (ReadsSign (93 ∷ more)) [ Arrow ↦ refl | _ ↦ refl ]
sign_read sign (hash more) = elim sign as (ReadsSign (35 ∷ more)) [ Arrow ↦ refl | _ ↦ refl ]
sign_read sign (colon more) = elim sign as (ReadsSign (58 ∷ more)) [ Arrow ↦ refl | _ ↦ refl ]

-- an opening sign is read before any bytes
opening_sign : (sign : SignOf) (rest : List ℕ) → is_opening (Sign sign) ≡ true → ReadsSign rest sign
unfolding sign_piece sign_of
opening_sign sign [] is = sign_read sign nothing
opening_sign sign (b ∷ bs) is = (elim sign as (λ s. is_opening (Sign s) ≡ true → ReadsSign (b ∷ bs) s) [ LeftParen ↦ λ e. refl | LeftBracket ↦ λ e. refl | Hash ↦ λ e. refl | _ ↦ λ e. cc ]) is

pub opening_read : (kind : TokenKind) (rest : List ℕ) → is_opening kind ≡ true → Reads (token_text kind) rest kind
opening_read kind rest is = (elim kind as (λ k. is_opening k ≡ true → Reads (token_text k) rest k) [ Sign sign ↦ opening_sign sign rest | _ ↦ λ e. cc ]) is
