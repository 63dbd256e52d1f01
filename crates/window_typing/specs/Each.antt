-- Operators that work on each measure.
use Rattle.std.specs.Prelude.{ℕ, Bool, List, [], ◌∷◌, filter_map, slice_get, Option, option_map, Result}
use Rattle.vtl_values.specs.declared.kind.Kind.{Kind}
use Rattle.vtl_values.specs.declared.kind.Role.TheVariants.{Measure}
use Rattle.vtl_values.specs.declared.place.Place.{Place}
use Rattle.vtl_values.specs.declared.structure.Component.{Component}
use Rattle.vtl_syntax.specs.declared.expr.Over.{Over}
use Rattle.scalar_trees.specs.declared.typing.stop.Fault.TheVariants.{UnknownComponent, WrongType, WrongStructure, WrongRole, NameTwice, TooManyComponents, BadConstant}
use Rattle.scalar_trees.specs.declared.typing.stop.Refusal.{Refusal}
use Rattle.data_set_trees.specs.declared.clauses.frame.Frame.{Frame}
use Rattle.data_set_trees.specs.clauses.Clauses.{demands}
use Rattle.data_set_trees.specs.clauses.Frames.{numbers_of}
use Rattle.data_set_trees.specs.aggregates.Aggregates.{has_room, names_differ}
use Rattle.data_set_trees.specs.declared.windows.analytic.Analytic.{Analytic}
use Rattle.data_set_trees.specs.declared.windows.analytic.Analytic.TheVariants as analytic
use Rattle.data_set_trees.specs.declared.windows.analytic.AnalyticMeasure.{AnalyticMeasure}
use Rattle.data_set_trees.specs.declared.windows.analytic.Parts.{Parts}
use Rattle.data_set_trees.specs.windows.Functions.{window_gives}
use Rattle.data_set_trees.specs.windows.Parts.{knows, may_part, parts_of}
use Rattle.data_set_trees.specs.windows.Results.{unordered}
use Rattle.data_set_trees.specs.windows.Windows.{takes_all, window_of}
use Rattle.window_typing.specs.declared.measures.OnEach.{OnEach}
use Rattle.window_typing.specs.declared.measures.OnEach.TheVariants.{Window, Offset}

-- what it gives of a measure of this kind
abbrev pub gives : OnEach → Kind → Kind
gives (Window f) kind = window_gives f kind
gives (Offset f offset) kind = kind

-- the operator of the component with this number
abbrev pub operator : OnEach → Over → ℕ → Analytic
operator (Window f) over number = window_of f number over
operator (Offset f offset) over number = analytic.Offset f number offset

-- what is worked out of it in these parts, if there is one
abbrev pub measure_in : Parts → Over → OnEach → List Component → ℕ → Option AnalyticMeasure
measure_in parts over o components number = option_map (λ c. record { name = c.name; kind = gives o c.kind; value = record { analytic = operator o over number; parts = parts } }) (slice_get components number)

abbrev pub on_measures : Frame → Over → OnEach → List AnalyticMeasure
on_measures frame over o = filter_map (measure_in (parts_of frame over) over o frame.components) (numbers_of Measure frame.components)

-- all that is asked where the measures that are worked out are these
abbrev pub fits : Place → Frame → Over → List Kind → Bool → Bool → List AnalyticMeasure → Result (Unit {0}) Refusal
fits place frame over takes stated within items =
    demands place (
    (knows frame over, UnknownComponent) ∷ (takes_all takes frame.components, WrongType) ∷ (stated, WrongStructure) ∷ (may_part frame over, WrongRole)
    ∷ (names_differ (unordered items frame.components), NameTwice) ∷ (has_room (unordered items frame.components), TooManyComponents) ∷ (within, BadConstant) ∷ [])
