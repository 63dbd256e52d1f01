-- Which answers of delta rules are right (docs/language.md, "Faults").
use Rattle.std.specs.Prelude.{◌≡◌, ℕ, List, map, Option, Some, None, Result, Ok, Err}
use Rattle.std.specs.Option.{IfSome}
use Rattle.std.specs.List.{AllZip, zip}
use Rattle.std.specs.Arc.{arc_value}
use Rattle.std.specs.FinMap.{len}
use Rattle.vtl_values.specs.declared.value.Value.{Value}
use Rattle.vtl_values.specs.Order.{key_cmp}
use Rattle.data_model.specs.Deltas.{BeginsAt, apply}
use Rattle.data_model.specs.Outcomes.{Answer, Made, Range, TooMany, Outcome}
use Rattle.data_model.specs.Answers.{IsRight}
use Rattle.point_sets.specs.DataSets.{DataSet}
use Rattle.point_sets.specs.Changes.{Changes}
use Rattle.held_index.specs.Holdings.{Holding, holding_of}
use Rattle.held_index.specs.declared.want.Want.{Want}
use Rattle.held_index.specs.declared.stop.Stop.{Stop}
use Rattle.held_index.specs.declared.stop.Stop.TheVariants.{Range as StopRange, TooMany as StopTooMany, Memory}

-- what an operator gives
abbrev pub SetOutcome : Type 0
SetOutcome = Outcome key_cmp (List Value)

-- what a rule answers; want of memory is no answer
abbrev pub answer_of : Result Changes Stop → Option (Answer (List Value) Changes)
answer_of (Ok d) = Some (Made d)
answer_of (Err (StopRange k)) = Some (Range (arc_value k))
answer_of (Err StopTooMany) = Some TooMany
answer_of (Err Memory) = None

-- the operands after the news
abbrev pub after_news : List Changes → List DataSet → List DataSet
after_news news xs = map (λ p. apply p.0 p.1) (zip news xs)

-- operands for which the rule is asked: the operator admits them before and after the news, which begin at them; what is held is what the wants have of them; and on them the operator gives x, of so many points
pub record AreAsked (admits : List DataSet → Type 0) (meaning : List DataSet → SetOutcome) (wants : List Want) (held : List Holding) (news : List Changes) (before : ℕ) (xs : List DataSet) (x : DataSet) : Type 0 where
  pub admitted : admits xs
  pub admitted_after : admits (after_news news xs)
  pub begins : AllZip BeginsAt news xs
  pub held_is : map (holding_of xs) wants ≡ held
  pub result_is : meaning xs ≡ Made x
  pub count : len x ≡ before

-- whichever operands it is asked for, a rule answers the right delta from the result before to the one after the news, or the fault there, or that memory is wanting
abbrev pub IsRightAnswer : (List DataSet → Type 0) → (List DataSet → SetOutcome) → List Want → List Holding → List Changes → ℕ → Result Changes Stop → Type 0
IsRightAnswer admits meaning wants held news before answer =
    (xs : List DataSet) (x : DataSet) → AreAsked admits meaning wants held news before xs x → IfSome (answer_of answer) (IsRight (meaning (after_news news xs)) x)
