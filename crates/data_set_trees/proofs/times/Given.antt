-- What operators on time series give on a structure is one.
use Rattle.std.proofs.Common.{◌≡◌, ◌≢◌, ℕ, Bool, true, ◌&&◌, List, [], ◌∷◌, ◌++◌, Option, Some, None, Ok}
use Rattle.std.specs.Prelude.{codes}
use Rattle.std.proofs.lemmas.List.Elements.{All-nil, All-cons, All-append}
use Rattle.vtl_values.specs.declared.kind.Kind.TheVariants.{Text}
use Rattle.vtl_values.specs.declared.kind.Role.TheVariants.{Identifier, Measure, Viral}
use Rattle.vtl_values.specs.declared.place.Place.{Place}
use Rattle.vtl_values.specs.declared.structure.Codes.TheVariants.{Any}
use Rattle.vtl_values.specs.declared.structure.Component.{Component}
use Rattle.vtl_values.specs.Structures.{IsStructure, FitsCodes}
use Rattle.vtl_syntax.specs.declared.words.TimeFunction.TheVariants.{FlowToStock, StockToFlow, PeriodIndicator}
use Rattle.scalar_trees.specs.declared.typing.stop.Fault.TheVariants.{WrongStructure, NameTwice, TooManyComponents}
use Rattle.scalar_trees.specs.typing.Steps.{◌>>=◌, or_refused}
use Rattle.scalar_trees.proofs.typing.Sound.{left}
use Rattle.data_set_trees.specs.clauses.After.{made}
use Rattle.data_set_trees.specs.clauses.Clauses.{demands}
use Rattle.data_set_trees.specs.clauses.Frames.{frame_of, numbers_of}
use Rattle.data_set_trees.specs.clauses.Laws.{FitTogether}
use Rattle.data_set_trees.proofs.clauses.Ordered.{orders_structures}
use Rattle.data_set_trees.specs.aggregates.Aggregates.{has_room, names_differ}
use Rattle.data_set_trees.specs.aggregates.Results.{with_numbers}
use Rattle.data_set_trees.proofs.aggregates.Grouped.{apart, met, numbered_all, plain_left}
use Rattle.data_set_trees.specs.declared.times.time.CheckedTime.{CheckedTime}
use Rattle.data_set_trees.specs.declared.times.time.CheckedTime.TheVariants as time
use Rattle.data_set_trees.specs.times.Laws.{GivesStructures}
use Rattle.data_set_trees.specs.times.Times.{period_number, time_checked, with_duration}

duration_apart : (place : Place) (cs : List Component) (t : CheckedTime) → time_checked PeriodIndicator place cs ≡ Ok t → names_differ (with_duration cs) ≡ true
duration_apart place cs t h = by_period (period_number cs) h
  where
    differ : Bool
    differ = names_differ (with_duration cs)

    room : Bool
    room = has_room (with_duration cs)

    by_period : (o : Option ℕ) → (or_refused o WrongStructure place >>= (λ period. demands place ((differ, NameTwice) ∷ (room, TooManyComponents) ∷ []) >>= (λ met. Ok (time.Of PeriodIndicator period)))) ≡ Ok t → differ ≡ true
    by_period None i = cc
    by_period (Some period) i = let answer = met place ((differ, NameTwice) ∷ (room, TooManyComponents) ∷ []) (Ok (time.Of PeriodIndicator period)) t i in left differ (room && true) answer.0

duration_fits : (cs : List Component) → IsStructure cs → names_differ (with_duration cs) ≡ true → FitTogether (with_duration cs)
duration_fits cs is differ =
    let Listed : Component → Type 0 = λ c. c.role ≡ Viral → c.codes ≢ Any in
    let Fitting : Component → Type 0 = λ c. FitsCodes c.kind c.codes in
    let numbers = numbers_of Identifier cs ++ numbers_of Viral cs in
    let own = made Measure Text (codes "duration_var") in
    record {
      names_differ = apart (with_duration cs) differ;
      viral_listed = All-append Listed (with_numbers cs numbers) (own ∷ []) (numbered_all Listed cs is.viral_listed numbers) (All-cons Listed own [] (λ viral. cc) (All-nil Listed));
      codes_fit = All-append Fitting (with_numbers cs numbers) (own ∷ []) (numbered_all Fitting cs is.codes_fit numbers) (All-cons Fitting own [] tt (All-nil Fitting));
    }

pub gives_structures : GivesStructures
gives_structures place cs (time.Of FlowToStock period) is h = plain_left cs is
gives_structures place cs (time.Of StockToFlow period) is h = plain_left cs is
gives_structures place cs (time.Of PeriodIndicator period) is h = orders_structures (frame_of (with_duration cs)) (duration_fits cs is (duration_apart place cs (time.Of PeriodIndicator period) h))
gives_structures place cs (time.Shift places period) is h = plain_left cs is
gives_structures place cs (time.Fill span period) is h = plain_left cs is
