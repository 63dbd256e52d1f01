-- Literals (docs/language.md, "Tokens").
use Rattle.std.specs.Prelude.{ℕ, ℤ, Option, Some, Result, Ok, Err}
use Rattle.vtl_tokens.specs.declared.token.TokenKind.{TokenKind}
use Rattle.vtl_values.specs.declared.read.BadText.{BadText}
use Rattle.vtl_values.specs.declared.value.Value.{Value}
use Rattle.vtl_values.specs.declared.value.Value.TheVariants.{Integer, Number}
use Rattle.vtl_lexer.specs.declared.stop.LexFault.{LexFault}
use Rattle.vtl_lexer.specs.declared.stop.LexFault.TheVariants.{NumberTooLong}

-- a numeral that a field refuses is too long as a literal
abbrev pub numeral : Result ℤ BadText → Result ℤ LexFault
numeral (Ok z) = Ok z
numeral (Err fault) = Err NumberTooLong

-- a literal's token, of so many bytes
abbrev pub literal_token : (ℤ → TokenKind) → ℕ → Result ℤ LexFault → Result (Option TokenKind × ℕ) LexFault
literal_token kind n (Ok z) = Ok (Some (kind z), n)
literal_token kind n (Err fault) = Err fault

-- what a value is as a number, and as an integer
abbrev pub number_in : Value → Result ℤ LexFault
number_in (Number z) = Ok z
number_in _ = Err NumberTooLong

abbrev pub integer_in : Value → Result ℤ LexFault
integer_in (Integer z) = Ok z
integer_in _ = Err NumberTooLong
