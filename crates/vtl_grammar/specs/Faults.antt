-- Where reading stops, and why.
use Rattle.std.specs.Prelude.{◌≡◌, [], ◌∷◌, ◌++◌, true, ◌⊎◌, Result, Ok, Err}
use Rattle.vtl_values.specs.declared.place.Place.{Place}
use Rattle.vtl_tokens.specs.declared.token.Token.{Token}
use Rattle.vtl_tokens.specs.declared.token.TokenKind.TheVariants as what
use Rattle.vtl_tokens.specs.declared.keyword.Keyword.{Keyword}
use Rattle.vtl_tokens.specs.declared.keyword.Keyword.TheVariants as words
use Rattle.vtl_tokens.specs.Keywords.{is_left_out}
use Rattle.vtl_syntax.specs.declared.script.Script.{Script}
use Rattle.vtl_grammar.specs.Marks.{Tokens, at}
use Rattle.vtl_grammar.specs.Rules.{Counts}
use Rattle.vtl_grammar.specs.Scripts.{IsScript, IsScriptAtLarge, IsScriptIn, LEVELS}

pub data Fault : Type 0 where
  Expected : Fault
  TooDeep : Fault
  LeftOut : Keyword → Fault
  TooMany : Fault

-- some script begins with these tokens
abbrev pub GoesOn : (Script → Tokens → Type 0) → Tokens → Type 0
GoesOn P us = (more : Tokens) × (s : Script) × P s (us ++ more)

-- no script begins with these and the next, or is these alone where they are all
abbrev pub GoesNoFurther : (Script → Tokens → Type 0) → Tokens → Tokens → Type 0
GoesNoFurther P us [] = (s : Script) → P s us → ⊥
GoesNoFurther P us (t ∷ ts) = GoesOn P (us ++ t ∷ []) → ⊥

-- the same limits but that of something that is counted
abbrev pub IsLongScript : Script → Tokens → Type 0
IsLongScript s us = (L : Counts) × IsScriptIn L LEVELS s us

-- the word `all` after `group`
abbrev pub IsAllOfGroup : Keyword → Tokens → Type 0
IsAllOfGroup w front = (w ≡ words.All) × ((before : Tokens) × (p : Place) × (front ≡ before ++ at (what.Reserved words.Group) p ∷ []))

-- the word `aggr` where `rename`, the last clause of a join, could stand
abbrev pub IsAggrOfJoin : Keyword → Tokens → Place → Type 0
IsAggrOfJoin w front p = (w ≡ words.Aggr) × GoesOn IsScriptAtLarge (front ++ at (what.Reserved words.Rename) p ∷ [])

-- the word that stands there is left out
abbrev pub IsLeftOutAt : Keyword → Tokens → Tokens → Type 0
IsLeftOutAt w front [] = ⊥
IsLeftOutAt w front (t ∷ ts) = (t.what ≡ what.Reserved w) × ((is_left_out w ≡ true) ⊎ IsAllOfGroup w front ⊎ IsAggrOfJoin w front t.place)

-- the rest begins with a token with which some script goes on that is as P says
abbrev pub GoesOnThere : (Script → Tokens → Type 0) → Tokens → Tokens → Type 0
GoesOnThere P front rest = (t : Token) × (ts : Tokens) × (rest ≡ t ∷ ts) × GoesOn P (front ++ t ∷ [])

-- why the tokens before go no further there: no script of any limits does, and the word is left out or not; or one
-- with more of what is counted does; or else only one with more levels
abbrev pub IsCause : Fault → Tokens → Tokens → Type 0
IsCause Expected front rest = GoesNoFurther IsScriptAtLarge front rest × ((w : Keyword) → IsLeftOutAt w front rest → ⊥)
IsCause (LeftOut w) front rest = GoesNoFurther IsScriptAtLarge front rest × IsLeftOutAt w front rest
IsCause TooMany front rest = GoesOnThere IsLongScript front rest
IsCause TooDeep front rest = GoesOnThere IsScriptAtLarge front rest × (GoesOnThere IsLongScript front rest → ⊥)

-- the rest begins with the first token with which no script goes on, or is the end
pub record IsFault (ts : Tokens) (fault : Fault) (rest : Tokens) : Type 0 where
  pub front : Tokens
  pub parts : ts ≡ front ++ rest
  pub goes_on : GoesOn IsScript front
  pub no_further : GoesNoFurther IsScript front rest
  pub cause : IsCause fault front rest

-- what the tokens before the end are: that script, or that fault with the tokens from where it stands
abbrev pub IsParsed : Tokens → Result Script (Fault × Tokens) → Type 0
IsParsed ts (Ok s) = IsScript s ts
IsParsed ts (Err e) = IsFault ts e.0 e.1
