-- What operators on time series are checked to be, or their first fault, which stands at the word of the call
-- (docs/language.md, "Time series", "Faults of time series").
use Rattle.std.specs.Prelude.{◌≡◌, ℕ, ℤ, Bool, true, not, ◌&&◌, ◌++◌, List, [], ◌∷◌, codes, position, nat_abs, nat_le, Option, Some, unwrap_or, Result, Ok}
use Rattle.vtl_values.specs.Texts.{same_text}
use Rattle.vtl_values.specs.declared.kind.Kind.TheVariants.{Text}
use Rattle.vtl_values.specs.declared.kind.Role.TheVariants.{Identifier, Measure, Viral}
use Rattle.vtl_values.specs.declared.place.Place.{Place}
use Rattle.vtl_values.specs.declared.structure.Component.{Component}
use Rattle.vtl_syntax.specs.declared.words.FillSpan.{FillSpan}
use Rattle.vtl_syntax.specs.declared.words.FillSpan.TheVariants as span
use Rattle.vtl_syntax.specs.declared.words.TimeFunction.{TimeFunction}
use Rattle.vtl_syntax.specs.declared.words.TimeFunction.TheVariants.{FlowToStock, StockToFlow, PeriodIndicator}
use Rattle.scalar_trees.specs.WellTyped.{is_kind}
use Rattle.scalar_trees.specs.declared.typing.stop.Fault.TheVariants.{WrongType, WrongStructure, NameTwice, TooManyComponents, BadConstant}
use Rattle.scalar_trees.specs.declared.typing.stop.Refusal.{Refusal}
use Rattle.scalar_trees.specs.typing.Steps.{◌>>=◌, or_refused}
use Rattle.data_set_trees.specs.clauses.After.{made}
use Rattle.data_set_trees.specs.clauses.Clauses.{demands}
use Rattle.data_set_trees.specs.clauses.Frames.{frame_of, has_role, numbers_of, by_role}
use Rattle.data_set_trees.specs.aggregates.Aggregates.{are_numeric, has_room, names_differ}
use Rattle.data_set_trees.specs.aggregates.Results.{with_numbers, without_attributes}
use Rattle.data_set_trees.specs.declared.times.time.CheckedTime.{CheckedTime}
use Rattle.data_set_trees.specs.declared.times.time.CheckedTime.TheVariants as time

-- ---- the period

abbrev pub TIME_PERIOD : List ℕ
TIME_PERIOD = codes "TIME_PERIOD"

-- the identifier that has a point's period
abbrev pub is_period : Component → Bool
is_period c = (has_role Identifier c && same_text TIME_PERIOD c.name) && is_kind c.kind Text

abbrev pub period_number : List Component → Option ℕ
period_number components = position is_period components

-- ---- the result

-- identifiers, viral attributes and the letter of the period's frequency, not yet by role
abbrev pub with_duration : List Component → List Component
with_duration components = with_numbers components (numbers_of Identifier components ++ numbers_of Viral components) ++ made Measure Text (codes "duration_var") ∷ []

-- the components that an operator gives
abbrev pub after : CheckedTime → List Component → List Component
after (time.Of PeriodIndicator period) components = (by_role (frame_of (with_duration components))).components
after (time.Of FlowToStock period) components = without_attributes components
after (time.Of StockToFlow period) components = without_attributes components
after (time.Shift places period) components = without_attributes components
after (time.Fill span period) components = without_attributes components

-- ---- typing

abbrev pub Answer : Type 0
Answer = Result CheckedTime Refusal

-- the two sums take numeric measures
abbrev pub takes_kinds : TimeFunction → List Component → Bool
takes_kinds FlowToStock components = are_numeric components
takes_kinds StockToFlow components = are_numeric components
takes_kinds PeriodIndicator components = true

-- a new measure stands apart from what stays
abbrev pub stands_apart : TimeFunction → List Component → Bool
stands_apart FlowToStock components = true
stands_apart StockToFlow components = true
stands_apart PeriodIndicator components = names_differ (with_duration components)

abbrev pub finds_room : TimeFunction → List Component → Bool
finds_room FlowToStock components = true
finds_room StockToFlow components = true
finds_room PeriodIndicator components = has_room (with_duration components)

-- `flow_to_stock(ds)`, `stock_to_flow(ds)`, `period_indicator(ds)`
abbrev pub time_checked : TimeFunction → Place → List Component → Answer
time_checked f place components =
    demands place ((takes_kinds f components, WrongType) ∷ [])
    >>= (λ fits. or_refused (period_number components) WrongStructure place
    >>= (λ period. demands place ((stands_apart f components, NameTwice) ∷ (finds_room f components, TooManyComponents) ∷ [])
    >>= (λ met. Ok (time.Of f period))))

-- a shift goes at most so many places
abbrev pub MOST_PLACES : ℕ
MOST_PLACES = 10000

-- `timeshift(ds, places)`
abbrev pub shift_checked : ℤ → Place → List Component → Answer
shift_checked places place components =
    or_refused (period_number components) WrongStructure place >>= (λ period. demands place ((nat_le (nat_abs places) MOST_PLACES, BadConstant) ∷ []) >>= (λ met. Ok (time.Shift places period)))

-- `fill_time_series(ds, span)`; without a word it is `all`
abbrev pub fill_checked : Option FillSpan → Place → List Component → Answer
fill_checked stated place components = or_refused (period_number components) WrongStructure place >>= (λ period. Ok (time.Fill (unwrap_or stated span.All) period))

-- typing gives this operator on these components
abbrev pub GivesTime : Place → List Component → CheckedTime → Type 0
GivesTime place components (time.Of f period) = time_checked f place components ≡ Ok (time.Of f period)
GivesTime place components (time.Shift places period) = shift_checked places place components ≡ Ok (time.Shift places period)
GivesTime place components (time.Fill span period) = fill_checked (Some span) place components ≡ Ok (time.Fill span period)
