-- What a list of tokens is: a script, or a fault and its place (docs/language.md, "Grammar").
use Rattle.std.specs.Prelude.{◌≡◌, ◌-◌, List, [], ◌∷◌, ◌++◌, map, length, take, Result, Ok, Err, ◌↔◌}
use Rattle.std.specs.List.{All}
use Rattle.vtl_values.specs.declared.place.Place.{Place}
use Rattle.vtl_tokens.specs.declared.token.TokenKind.{TokenKind}
use Rattle.vtl_tokens.specs.declared.token.TokenKind.TheVariants.{End}
use Rattle.vtl_syntax.specs.declared.script.Script.{Script}
use Rattle.vtl_grammar.specs.Marks.{Tokens}
use Rattle.vtl_grammar.specs.Rules.{first_place}
use Rattle.vtl_grammar.specs.Faults as faults
use Rattle.vtl_grammar.specs.Faults.{Fault, IsParsed}
use Rattle.vtl_grammar.specs.Parsed.{parsed}
use Rattle.vtl_parser.specs.declared.stop.ParseFault.{ParseFault}
use Rattle.vtl_parser.specs.declared.stop.ParseFault.TheVariants as told
use Rattle.vtl_parser.specs.declared.stop.ParseStop.{ParseStop}
use Rattle.vtl_parser.specs.declared.stop.ParseStop.TheVariants as stops

-- the last token, and no other, is the end
abbrev pub IsEnded : Tokens → Type 0
IsEnded tokens = (kinds : List TokenKind) × (map (λ token. token.what) tokens ≡ kinds ++ End ∷ []) × All (λ kind. kind ≡ End → ⊥) kinds

-- the tokens before the last, and the last alone
abbrev pub before_end : Tokens → Tokens
before_end tokens = take (length tokens - 1) tokens

abbrev pub only_end : Tokens → Tokens
only_end [] = []
only_end (t ∷ []) = t ∷ []
only_end (t ∷ u ∷ ts) = only_end (u ∷ ts)

-- the tokens before the end are that script, or have that fault at the token at that place, or at the end
abbrev pub IsParsedAs : Tokens → Result Script (Fault × Place) → Type 0
IsParsedAs tokens (Ok script) = IsParsed (before_end tokens) (Ok script)
IsParsedAs tokens (Err e) = (rest : Tokens) × IsParsed (before_end tokens) (Err (e.0, rest)) × (e.1 ≡ first_place (rest ++ only_end tokens))

-- they are that, and nothing else
abbrev pub IsOnly : Tokens → Result Script (Fault × Place) → Type 0
IsOnly tokens answer = (other : Result Script (Fault × Place)) → IsParsedAs tokens other ↔ (other ≡ answer)

-- a fault stands at the first token of the rest, or at the end
abbrev pub placed_by : Tokens → Result Script (Fault × Tokens) → Result Script (Fault × Place)
placed_by end (Ok script) = Ok script
placed_by end (Err fault) = Err (fault.0, first_place (fault.1 ++ end))

-- the script that the tokens before the end are, or the fault that they have, with its place
unfoldable pub answered : Tokens → Result Script (Fault × Place)
answered tokens = placed_by (only_end tokens) (parsed (before_end tokens))

-- ---- what the parser returned

abbrev pub fault_of : ParseFault → Fault
fault_of told.Expected = faults.Expected
fault_of told.TooDeep = faults.TooDeep
fault_of (told.LeftOut word) = faults.LeftOut word
fault_of told.TooMany = faults.TooMany

-- it is what the tokens are, and nothing else, unless memory ran out
abbrev pub IsAnswer : Tokens → Result Script ParseStop → Type 0
IsAnswer tokens (Ok script) = IsOnly tokens (Ok script)
IsAnswer tokens (Err (stops.Fault fault place)) = IsOnly tokens (Err (fault_of fault, place))
IsAnswer tokens (Err stops.Memory) = Unit {0}
