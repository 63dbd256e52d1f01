-- What reading answers, by the grammar alone.
use Rattle.std.specs.Prelude.{◌≡◌, ℕ, length, [], ◌∷◌, ◌++◌, Bool, true, false, Result, Ok, Err, ◌↔◌}
use Rattle.vtl_values.specs.declared.place.Place.{Place}
use Rattle.vtl_tokens.specs.declared.token.TokenKind.TheVariants as what
use Rattle.vtl_tokens.specs.declared.keyword.Keyword.{Keyword}
use Rattle.vtl_tokens.specs.declared.keyword.Keyword.TheVariants as words
use Rattle.vtl_syntax.specs.declared.script.Script.{Script}
use Rattle.vtl_grammar.specs.Marks.{Tokens, at}
use Rattle.vtl_grammar.specs.Scripts.{IsScript, IsScriptAtLarge, language, LEVELS}
use Rattle.vtl_grammar.specs.Faults as fault
use Rattle.vtl_grammar.specs.Faults.{Fault, GoesOn, GoesNoFurther, GoesOnThere, IsLongScript, IsLeftOutAt, IsFault, IsParsed}
use Rattle.vtl_grammar.specs.Reading.{Kind, Expected, TooDeep, TooMany, Halt, Read, got}
use Rattle.vtl_grammar.specs.ScriptReading.{read_script}

-- reading of the tokens before the end; no list has more items than there are tokens
abbrev pub read_whole : Tokens → Read Script
read_whole ts = read_script (language (length ts)) LEVELS ts

-- what a kind of halt says of the token: no script of any limits goes on with it, or one of another limit does
abbrev pub IsReason : Kind → Tokens → Tokens → Type 0
IsReason Expected front rest = GoesNoFurther IsScriptAtLarge front rest
IsReason TooDeep front rest = GoesOnThere IsScriptAtLarge front rest × (GoesOnThere IsLongScript front rest → ⊥)
IsReason (TooMany j) front rest = GoesOnThere IsLongScript front rest

-- some script goes on with the tokens before the halt, and none with the next
pub record StopsAt (ts : Tokens) (e : Halt) : Type 0 where
  pub front : Tokens
  pub parts : ts ≡ front ++ e.rest
  pub goes_on : GoesOn IsScript front
  pub no_further : GoesNoFurther IsScript front e.rest
  pub reason : IsReason e.kind front e.rest

abbrev pub Answers : Tokens → Read Script → Type 0
Answers ts (Ok a) = IsScript a.value ts
Answers ts (Err e) = StopsAt ts e

-- reading answers so
abbrev pub ReadsRightly : Type 0
ReadsRightly = (ts : Tokens) → Answers ts (read_whole ts)

-- a script is read as itself
abbrev pub ReadsScripts : Type 0
ReadsScripts = (s : Script) (ts : Tokens) → IsScript s ts → (h : ℕ) × (read_whole ts ≡ got s h [])

-- tokens are one script at most
abbrev pub OneScript : Type 0
OneScript = (s s' : Script) (ts : Tokens) → IsScript s ts → IsScript s' ts → s ≡ s'

-- ---- `rename`

abbrev pub with_rename : Tokens → Place → Tokens
with_rename front p = front ++ at (what.Reserved words.Rename) p ∷ []

-- reading passes the last token, or stops there at a limit alone
abbrev pub passes_last : Read Script → Bool
passes_last (Ok a) = true
passes_last (Err e) = by_kind e.kind e.rest
  where
    by_kind : Kind → Tokens → Bool
    by_kind Expected [] = true
    by_kind Expected (t ∷ ts) = false
    by_kind TooDeep ts = true
    by_kind (TooMany j) ts = true

-- reading tells whether a script goes on with `rename` there
abbrev pub TellsRename : Type 0
TellsRename = (front : Tokens) (p : Place) → GoesOn IsScript front → (passes_last (read_whole (with_rename front p)) ≡ true) ↔ GoesOn IsScriptAtLarge (with_rename front p)

-- ---- faults

-- what a halt of that kind is as a fault: where no script of any limits goes on, a left-out word is told
abbrev pub FaultsOf : Kind → Tokens → Tokens → Tokens → Type 0
FaultsOf Expected ts front rest = ((w : Keyword) → IsLeftOutAt w front rest → IsFault ts (fault.LeftOut w) rest) × (((w : Keyword) → IsLeftOutAt w front rest → ⊥) → IsFault ts fault.Expected rest)
FaultsOf TooDeep ts front rest = IsFault ts fault.TooDeep rest
FaultsOf (TooMany j) ts front rest = IsFault ts fault.TooMany rest

-- where reading stops there is that fault
abbrev pub TellsFaults : Type 0
TellsFaults = (ts : Tokens) (e : Halt) (s : StopsAt ts e) → FaultsOf e.kind ts s.front e.rest

-- tokens are one script at most, or have one fault at one place, so the kinds of faults are told apart
abbrev pub OneAnswer : Type 0
OneAnswer = (ts : Tokens) (a b : Result Script (Fault × Tokens)) → IsParsed ts a → IsParsed ts b → a ≡ b
