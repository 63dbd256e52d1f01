-- What analytic operators are checked to be, or their first fault, which stands at the word of the call; those of `calc`
-- itself stand at its word (docs/language.md, "Analytic operators", "Faults of analytic operators").
use Rattle.std.specs.Prelude.{◌≡◌, ℕ, ℤ, Bool, true, not, ◌||◌, List, [], ◌∷◌, map, codes, filter_map, slice_get, Option, Some, None, option_map, is_some, is_none, Result, Ok, if◌then◌else◌}
use Rattle.std.specs.List.{list_all}
use Rattle.vtl_values.specs.declared.kind.Kind.{Kind}
use Rattle.vtl_values.specs.declared.kind.Kind.TheVariants.{Integer}
use Rattle.vtl_values.specs.declared.kind.Kind.TheVariants as kind
use Rattle.vtl_values.specs.declared.kind.Role.TheVariants.{Measure}
use Rattle.vtl_values.specs.declared.place.Place.{Place}
use Rattle.vtl_values.specs.declared.structure.Component.{Component}
use Rattle.vtl_syntax.specs.declared.expr.Expr.{Expr}
use Rattle.vtl_syntax.specs.declared.expr.Over.{Over}
use Rattle.vtl_syntax.specs.declared.words.ItemRole.{ItemRole}
use Rattle.vtl_syntax.specs.declared.words.OffsetFunction.{OffsetFunction}
use Rattle.vtl_syntax.specs.declared.words.WindowEnd.TheVariants.{UnboundedFollowing}
use Rattle.vtl_syntax.specs.declared.words.WindowFunction.{WindowFunction}
use Rattle.vtl_syntax.specs.declared.words.WindowFunction.TheVariants.{Count, Sum, Avg, Min, Max, Median, FirstValue, LastValue, RatioToReport}
use Rattle.vtl_syntax.specs.declared.words.WindowStart.TheVariants.{UnboundedPreceding}
use Rattle.scalar_trees.specs.Kinds.{ANY, agreed}
use Rattle.scalar_trees.specs.declared.typing.scope.Basis.TheVariants.{Point}
use Rattle.scalar_trees.specs.declared.typing.stop.Fault.TheVariants.{UnknownComponent, WrongType, WrongStructure, WrongRole, NameTwice, TooManyComponents, BadConstant}
use Rattle.scalar_trees.specs.declared.typing.stop.Refusal.{Refusal}
use Rattle.scalar_trees.specs.declared.typing.typed.Typed.{Typed}
use Rattle.scalar_trees.specs.typing.Scalars.{component_number, joint, meaning, typed, whole_kind}
use Rattle.scalar_trees.specs.typing.Steps.{◌>>=◌, or_refused}
use Rattle.data_set_trees.specs.declared.clauses.frame.Frame.{Frame}
use Rattle.data_set_trees.specs.clauses.Clauses.{bare_number_of, calc_typed, demands, old_role, role_of, target_of}
use Rattle.data_set_trees.specs.clauses.Frames.{frame_of, has_role, numbers_of, scope_of_frame}
use Rattle.data_set_trees.specs.aggregates.Aggregates.{has_room, names_differ}
use Rattle.data_set_trees.specs.declared.windows.analytic.Analytic.{Analytic}
use Rattle.data_set_trees.specs.declared.windows.analytic.Analytic.TheVariants as analytic
use Rattle.data_set_trees.specs.declared.windows.analytic.AnalyticItem.{AnalyticItem}
use Rattle.data_set_trees.specs.declared.windows.analytic.AnalyticMeasure.{AnalyticMeasure}
use Rattle.data_set_trees.specs.declared.windows.analytic.AnalyticValue.{AnalyticValue}
use Rattle.data_set_trees.specs.declared.windows.analytic.AnalyticValue.TheVariants as value
use Rattle.data_set_trees.specs.declared.windows.analytic.CheckedAnalytic.{CheckedAnalytic}
use Rattle.data_set_trees.specs.declared.windows.analytic.CheckedWindow.{CheckedWindow}
use Rattle.data_set_trees.specs.declared.windows.analytic.CheckedWindow.TheVariants as window
use Rattle.data_set_trees.specs.windows.Functions.{takes_window, window_gives, window_takes}
use Rattle.data_set_trees.specs.windows.Parts.{end_of, is_offset, knows, may_part, parts_of, points_within, start_of}
use Rattle.data_set_trees.specs.windows.Results.{as_item, unordered}

-- ---- operators

-- over a component, on the window that is stated; `ratio_to_report` goes over the part
abbrev pub window_of : WindowFunction → ℕ → Over → Analytic
window_of RatioToReport number over = analytic.Window RatioToReport number UnboundedPreceding UnboundedFollowing
window_of Sum number over = analytic.Window Sum number (start_of over.points) (end_of over.points)
window_of Avg number over = analytic.Window Avg number (start_of over.points) (end_of over.points)
window_of Count number over = analytic.Window Count number (start_of over.points) (end_of over.points)
window_of Min number over = analytic.Window Min number (start_of over.points) (end_of over.points)
window_of Max number over = analytic.Window Max number (start_of over.points) (end_of over.points)
window_of Median number over = analytic.Window Median number (start_of over.points) (end_of over.points)
window_of FirstValue number over = analytic.Window FirstValue number (start_of over.points) (end_of over.points)
window_of LastValue number over = analytic.Window LastValue number (start_of over.points) (end_of over.points)

-- with the parts of a frame
abbrev pub with_parts : Frame → Over → Analytic → CheckedAnalytic
with_parts frame over a = record { analytic = a; parts = parts_of frame over }

-- a window is stated only where it may be
abbrev pub may_state : Bool → Over → Bool
may_state may over = may || is_none over.points

-- ---- in `calc`: an operator of its own on a component, with the kind of its value

abbrev pub Answer : Type 0
Answer = Result (Kind × CheckedAnalytic) Refusal

-- a component stands as a bare name
abbrev pub bare_component : Expr → Typed → Option ℕ
bare_component a t = if is_some (meaning a).own_name then component_number t.tree else None

-- where its operand is known and fits, the rest of what is asked
abbrev pub finished : Place → Frame → Over → Bool → Bool → Kind → Analytic → Answer
finished place frame over stated within kind a =
    demands place ((stated, WrongStructure) ∷ (may_part frame over, WrongRole) ∷ (within, BadConstant) ∷ []) >>= (λ met. Ok (kind, with_parts frame over a))

-- of an operand: its own faults first, then the names of `over`, its kind, and that it is a component
abbrev pub of_component : Place → Frame → Over → List Kind → Expr → (Kind → ℕ → Answer) → Answer
of_component place frame over takes a next =
    typed (scope_of_frame frame) Point a
    >>= (λ t. demands place ((knows frame over, UnknownComponent) ∷ [])
    >>= (λ known. joint place takes (t.kind ∷ [])
    >>= (λ kind. or_refused (bare_component a t) WrongStructure place >>= next kind)))

-- `sum(c over ..)` and its like
abbrev pub window_typed : WindowFunction → Expr → Over → Place → Frame → Answer
window_typed f a over place frame =
    of_component place frame over (window_takes f) a (λ kind number. finished place frame over (may_state (takes_window f) over) (points_within over.points) (window_gives f kind) (window_of f number over))

-- `lag(c, n over ..)`, `lead(c, n over ..)`
abbrev pub offset_typed : OffsetFunction → Expr → ℤ → Over → Place → Frame → Answer
offset_typed f a offset over place frame =
    of_component place frame over ANY a (λ kind number. finished place frame over (is_none over.points) (is_offset offset) kind (analytic.Offset f number offset))

-- `rank(over ..)`
abbrev pub rank_typed : Over → Place → Frame → Answer
rank_typed over place frame =
    demands place ((knows frame over, UnknownComponent) ∷ []) >>= (λ known. finished place frame over (is_none over.points) true Integer analytic.Rank)

-- an item of `calc` with its value and the kind of this
abbrev pub item_typed : Frame → Option ItemRole → List ℕ → Kind → AnalyticValue → AnalyticItem
item_typed frame stated name kind v = record {
  target = target_of (bare_number_of frame name) name;
  role = role_of stated (old_role frame (bare_number_of frame name));
  kind = kind;
  value = v;
}

-- an item that is worked out on the point itself; null as a whole expression is a string
abbrev pub scalar_item : Frame → Option ItemRole → List ℕ → Typed → AnalyticItem
scalar_item frame stated name t = item_typed frame stated name (whole_kind kind.Text t.kind) (value.Scalar t.tree)

-- and one that is analytic
abbrev pub analytic_item : Frame → Option ItemRole → List ℕ → Kind × CheckedAnalytic → AnalyticItem
analytic_item frame stated name a = item_typed frame stated name a.0 (value.Analytic a.1)

-- an item that is made so on a frame
pub record IsItemOf (frame : Frame) (item : AnalyticItem) : Type 0 where
  pub stated : Option ItemRole
  pub name : List ℕ
  pub kind : Kind
  pub value : AnalyticValue
  pub is : item ≡ item_typed frame stated name kind value

-- what `calc` asks of its items: the same, whatever they are worked out by
abbrev pub calc_checked : Place → List AnalyticItem → Frame → Result CheckedWindow Refusal
calc_checked place items frame = calc_typed place (map as_item items) frame >>= (λ met. Ok (window.Calc items))

-- ---- on a data set

-- the kind of each measure is one of these
abbrev pub takes_all : List Kind → List Component → Bool
takes_all takes components = list_all (λ c. not (has_role Measure c) || is_some (agreed takes (Some c.kind ∷ []))) components

-- on each measure, which keeps its name
abbrev pub on_measures : Frame → Over → (Kind → Kind) → (ℕ → Analytic) → List AnalyticMeasure
on_measures frame over gives of = filter_map (λ number. option_map (λ c. record { name = c.name; kind = gives c.kind; value = with_parts frame over (of number) }) (slice_get frame.components number)) (numbers_of Measure frame.components)

-- the measure in which `count` has the number of the window's points
abbrev pub points_counted : Frame → Over → AnalyticMeasure
points_counted frame over = record { name = codes "int_var"; kind = Integer; value = with_parts frame over (analytic.CountAll (start_of over.points) (end_of over.points)) }

abbrev pub window_items : WindowFunction → Frame → Over → List AnalyticMeasure
window_items Count frame over = points_counted frame over ∷ []
window_items Sum frame over = on_measures frame over (window_gives Sum) (λ number. window_of Sum number over)
window_items Avg frame over = on_measures frame over (window_gives Avg) (λ number. window_of Avg number over)
window_items Min frame over = on_measures frame over (window_gives Min) (λ number. window_of Min number over)
window_items Max frame over = on_measures frame over (window_gives Max) (λ number. window_of Max number over)
window_items Median frame over = on_measures frame over (window_gives Median) (λ number. window_of Median number over)
window_items FirstValue frame over = on_measures frame over (window_gives FirstValue) (λ number. window_of FirstValue number over)
window_items LastValue frame over = on_measures frame over (window_gives LastValue) (λ number. window_of LastValue number over)
window_items RatioToReport frame over = on_measures frame over (window_gives RatioToReport) (λ number. window_of RatioToReport number over)

-- where the measures are these, all that is asked
abbrev pub measures_typed : Place → List Component → Over → List Kind → Bool → Bool → List AnalyticMeasure → Result CheckedWindow Refusal
measures_typed place components over takes stated within items =
    demands place (
    (knows (frame_of components) over, UnknownComponent) ∷ (takes_all takes components, WrongType) ∷ (stated, WrongStructure) ∷ (may_part (frame_of components) over, WrongRole)
    ∷ (names_differ (unordered items components), NameTwice) ∷ (has_room (unordered items components), TooManyComponents) ∷ (within, BadConstant) ∷ [])
    >>= (λ met. Ok (window.Measures items))

-- `sum(ds over ..)` and its like, on a data set of these components
abbrev pub window_checked : WindowFunction → Over → Place → List Component → Result CheckedWindow Refusal
window_checked f over place components = measures_typed place components over (window_takes f) (may_state (takes_window f) over) (points_within over.points) (window_items f (frame_of components) over)

-- `lag(ds, n over ..)`, `lead(ds, n over ..)`
abbrev pub offset_checked : OffsetFunction → ℤ → Over → Place → List Component → Result CheckedWindow Refusal
offset_checked f offset over place components =
    measures_typed place components over ANY (is_none over.points) (is_offset offset) (on_measures (frame_of components) over (λ kind. kind) (λ number. analytic.Offset f number offset))
