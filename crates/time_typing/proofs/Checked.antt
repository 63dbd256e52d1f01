-- What operators are checked to be, where all that is demanded is met.
use Rattle.std.proofs.Common.{◌≡◌, ℕ, ℤ, List, [], ◌∷◌, Some, Ok, ◌∙◌}
use Rattle.std.specs.Prelude.{nat_abs, nat_le}
use Rattle.vtl_values.specs.declared.place.Place.{Place}
use Rattle.vtl_values.specs.declared.structure.Component.{Component}
use Rattle.vtl_syntax.specs.declared.words.FillSpan.{FillSpan}
use Rattle.vtl_syntax.specs.declared.words.TimeFunction.{TimeFunction}
use Rattle.scalar_trees.specs.declared.typing.stop.Fault.TheVariants.{WrongType, WrongStructure, NameTwice, TooManyComponents, BadConstant}
use Rattle.scalar_trees.specs.typing.Steps.{◌>>=◌, or_refused}
use Rattle.operator_typing.proofs.Steps.{goes_on}
use Rattle.data_set_trees.specs.clauses.Clauses.{demands}
use Rattle.data_set_trees.specs.declared.times.time.CheckedTime.TheVariants as time
use Rattle.data_set_trees.specs.times.Times.{Answer, MOST_PLACES, fill_checked, finds_room, period_number, shift_checked, stands_apart, takes_kinds, time_checked}

module _ (f : TimeFunction) (place : Place) (cs : List Component) where
  last : ℕ → Answer
  last period = demands place ((stands_apart f cs, NameTwice) ∷ (finds_room f cs, TooManyComponents) ∷ []) >>= (λ met. Ok (time.Of f period))

  pub time_is : (period : ℕ) (kinds fits : Unit {0}) → demands place ((takes_kinds f cs, WrongType) ∷ []) ≡ Ok kinds → or_refused (period_number cs) WrongStructure place ≡ Ok period
      → demands place ((stands_apart f cs, NameTwice) ∷ (finds_room f cs, TooManyComponents) ∷ []) ≡ Ok fits → time_checked f place cs ≡ Ok (time.Of f period)
  unfolding last
  time_is period kinds fits first second third =
      goes_on (demands place ((takes_kinds f cs, WrongType) ∷ [])) (λ met. or_refused (period_number cs) WrongStructure place >>= last) kinds first
      ∙ goes_on (or_refused (period_number cs) WrongStructure place) last period second
      ∙ goes_on (demands place ((stands_apart f cs, NameTwice) ∷ (finds_room f cs, TooManyComponents) ∷ [])) (λ met. Ok (time.Of f period)) fits third

pub shift_is : (places : ℤ) (place : Place) (cs : List Component) (period : ℕ) (near : Unit {0}) → or_refused (period_number cs) WrongStructure place ≡ Ok period
    → demands place ((nat_le (nat_abs places) MOST_PLACES, BadConstant) ∷ []) ≡ Ok near → shift_checked places place cs ≡ Ok (time.Shift places period)
shift_is places place cs period near first second =
    goes_on (or_refused (period_number cs) WrongStructure place) (λ n. demands place ((nat_le (nat_abs places) MOST_PLACES, BadConstant) ∷ []) >>= (λ met. Ok (time.Shift places n))) period first
    ∙ goes_on (demands place ((nat_le (nat_abs places) MOST_PLACES, BadConstant) ∷ [])) (λ met. Ok (time.Shift places period)) near second

pub fill_is : (span : FillSpan) (place : Place) (cs : List Component) (period : ℕ) → or_refused (period_number cs) WrongStructure place ≡ Ok period → fill_checked (Some span) place cs ≡ Ok (time.Fill span period)
fill_is span place cs period first = goes_on (or_refused (period_number cs) WrongStructure place) (λ n. Ok (time.Fill span n)) period first
