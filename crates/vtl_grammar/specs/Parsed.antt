-- What the tokens before the end are: a script, or where it is wrong (docs/language.md, "Grammar").
use Rattle.std.specs.Prelude.{◌≡◌, ◌-◌, if◌then◌else◌, [], ◌∷◌, length, take, Option, Some, None, Result, Ok, Err}
use Rattle.vtl_values.specs.declared.place.Place.{Place}
use Rattle.vtl_tokens.specs.declared.token.TokenKind.{TokenKind}
use Rattle.vtl_tokens.specs.declared.token.TokenKind.TheVariants.{Reserved}
use Rattle.vtl_tokens.specs.declared.keyword.Keyword.{Keyword}
use Rattle.vtl_syntax.specs.declared.script.Script.{Script}
use Rattle.vtl_grammar.specs.Marks.{Tokens}
use Rattle.vtl_grammar.specs.Faults as faults
use Rattle.vtl_grammar.specs.Faults.{Fault, IsParsed}
use Rattle.vtl_grammar.specs.Reading.{Kind, Expected, TooDeep, TooMany, Read}
use Rattle.vtl_grammar.specs.Laws.{read_whole}
use Rattle.vtl_grammar.specs.LeftOut.{is_left_out_at}

-- the reserved word that a token is
abbrev pub word_in : TokenKind → Option Keyword
word_in (Reserved w) = Some w
word_in _ = None

-- a word that stands where it is left out is told, and else that something else is expected
abbrev pub expected_or_left_out : Tokens → Place → Option Keyword → Fault
expected_or_left_out front p None = faults.Expected
expected_or_left_out front p (Some w) = if is_left_out_at w front p then faults.LeftOut w else faults.Expected

abbrev pub unexpected : Tokens → Tokens → Fault
unexpected front [] = faults.Expected
unexpected front (t ∷ ts) = expected_or_left_out front t.place (word_in t.what)

-- why reading stops after these tokens
abbrev pub fault_of : Kind → Tokens → Tokens → Fault
fault_of Expected front rest = unexpected front rest
fault_of TooDeep front rest = faults.TooDeep
fault_of (TooMany limit) front rest = faults.TooMany

-- the tokens before the rest
abbrev pub before : Tokens → Tokens → Tokens
before ts rest = take (length ts - length rest) ts

-- the script that reading gives, or the fault with the tokens from where it stands
abbrev pub told_by : Tokens → Read Script → Result Script (Fault × Tokens)
told_by ts (Ok a) = Ok a.value
told_by ts (Err e) = Err (fault_of e.kind (before ts e.rest) e.rest, e.rest)

-- the script that the tokens are, or the fault with the tokens from where it stands
abbrev pub parsed : Tokens → Result Script (Fault × Tokens)
parsed ts = told_by ts (read_whole ts)

-- ---- what that says

-- a script is given only where the tokens are it, and else the fault that they have
abbrev pub ParsesRightly : Type 0
ParsesRightly = (ts : Tokens) → IsParsed ts (parsed ts)

-- what the tokens are is told
abbrev pub ParsesAll : Type 0
ParsesAll = (ts : Tokens) (answer : Result Script (Fault × Tokens)) → IsParsed ts answer → parsed ts ≡ answer
