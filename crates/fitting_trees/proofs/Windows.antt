-- What typing gives for an analytic operator on a data set is well typed.
use Rattle.std.proofs.Common.{◌≡◌, refl, ℕ, ℤ, Bool, true, false, not, ◌&&◌, ◌||◌, List, [], ◌∷◌, Option, Some, None, Ok, ap, sym, subst, ◌∙◌}
use Rattle.std.specs.Prelude.{is_none, is_some, nat_eq, slice_get, option_map, unwrap_or}
use Rattle.std.specs.Option.{option_map_or}
use Rattle.std.specs.List.{list_all, list_any, cons_option}
use Rattle.std.proofs.lemmas.Bool.Decides.{Decides-eqb}
use Rattle.vtl_values.specs.declared.kind.Kind.{Kind}
use Rattle.vtl_values.specs.declared.kind.Role.TheVariants.{Identifier, Measure}
use Rattle.vtl_values.specs.declared.place.Place.{Place}
use Rattle.vtl_values.specs.declared.structure.Component.{Component}
use Rattle.vtl_syntax.specs.declared.expr.OrderItem.{OrderItem}
use Rattle.vtl_syntax.specs.declared.expr.Over.{Over}
use Rattle.vtl_syntax.specs.declared.words.Direction.TheVariants.{Ascending}
use Rattle.vtl_syntax.specs.declared.words.OffsetFunction.{OffsetFunction}
use Rattle.vtl_syntax.specs.declared.words.WindowFunction.{WindowFunction}
use Rattle.vtl_syntax.specs.declared.words.WindowFunction.TheVariants.{Sum, Avg, Count, Min, Max, Median, FirstValue, LastValue, RatioToReport}
use Rattle.scalar_trees.specs.Kinds.{ANY, agreed}
use Rattle.scalar_trees.specs.WellTyped.{is_kind}
use Rattle.scalar_trees.specs.declared.typing.stop.Fault.TheVariants.{UnknownComponent, WrongType, WrongStructure, WrongRole, NameTwice, TooManyComponents, BadConstant}
use Rattle.scalar_trees.proofs.typing.Sound.{is_kind-refl, both, left, right}
use Rattle.data_set_trees.specs.declared.clauses.clause.CheckedRename.{CheckedRename}
use Rattle.data_set_trees.specs.declared.clauses.frame.Frame.{Frame}
use Rattle.data_set_trees.specs.clauses.After.{is_among}
use Rattle.data_set_trees.specs.clauses.Clauses.{bare_number_of, passes_at}
use Rattle.data_set_trees.specs.clauses.Frames.{frame_of, has_role, numbers_of}
use Rattle.data_set_trees.specs.clauses.WellTyped.{is_component}
use Rattle.data_set_trees.proofs.clauses.Typed.{renames_there}
use Rattle.data_set_trees.specs.aggregates.Aggregates.{has_room, names_differ}
use Rattle.data_set_trees.proofs.aggregates.Grouped.{met}
use Rattle.data_set_trees.specs.declared.windows.analytic.Analytic.{Analytic}
use Rattle.data_set_trees.specs.declared.windows.analytic.Analytic.TheVariants as analytic
use Rattle.data_set_trees.specs.declared.windows.analytic.AnalyticMeasure.{AnalyticMeasure}
use Rattle.data_set_trees.specs.declared.windows.analytic.CheckedWindow.{CheckedWindow}
use Rattle.data_set_trees.specs.declared.windows.analytic.CheckedWindow.TheVariants as window
use Rattle.data_set_trees.specs.declared.windows.analytic.OrderedBy.{OrderedBy}
use Rattle.data_set_trees.specs.windows.Functions.{takes_window, window_gives, window_takes}
use Rattle.data_set_trees.specs.windows.Parts.{is_offset, knows, may_part, named_numbers, order_items, ordered_by, partition_names, parts_of, points_within}
use Rattle.data_set_trees.specs.windows.Results.{unordered}
use Rattle.data_set_trees.specs.windows.WellTyped.{are_parts, gives_of, is_analytic, is_of_kind}
use Rattle.data_set_trees.specs.windows.Windows.{may_state, measures_typed, offset_checked, on_measures, points_counted, takes_all, window_checked, window_items, window_of, with_parts}
use Rattle.data_set_trees.specs.checked.Operators.{is_window}
use Rattle.fitting_trees.proofs.Numbered.{asked, made-all, always-all, one-of-all, numbers-all, TakesOwn, any-own, numeric-own}
use Rattle.fitting_trees.proofs.Scalars.{answered}

-- ---- parts

-- what holds of all of these numbers holds of one among them
among-passes : (p : ℕ → Bool) (numbers : List ℕ) (n : ℕ) → list_all p numbers ≡ true → is_among numbers n ≡ true → p n ≡ true
among-passes p [] n all among = cc
among-passes p (m ∷ ms) n all among = by_test (nat_eq n m) refl (among-passes p ms n (right (p m) (list_all p ms) all)) among
  where
    by_test : (b : Bool) → nat_eq n m ≡ b → (is_among ms n ≡ true → p n ≡ true) → (b || list_any (nat_eq n) ms) ≡ true → p n ≡ true
    by_test true is later i = subst (λ (k : ℕ). p k ≡ true) (sym ((Decides-eqb n m).0 is)) (left (p m) (list_all p ms) all)
    by_test false is later i = later i

-- parts are made by identifiers, where their names are those of identifiers
partition-is : (frame : Frame) (over : Over) → may_part frame over ≡ true → list_all (passes_at (has_role Identifier) frame) (parts_of frame over).partition ≡ true
partition-is frame over may =
    let passes = passes_at (has_role Identifier) frame in
    let named = named_numbers frame (partition_names over) in
    let all = made-all (bare_number_of frame) passes (partition_names over) may in
    numbers-all passes (λ number c. is_among named number) frame.components (λ n c there among. among-passes passes named n all among)

-- a name that is known is that of a component that is there
ordered-there : (frame : Frame) (o : OrderItem) → option_map_or (λ (b : OrderedBy). is_component frame b.component) (ordered_by frame o) true ≡ true
ordered-there frame o =
    by_number (bare_number_of frame o.name) (renames_there frame (record { component = record { name = o.name; component = None; place = o.place }; name = o.name; place = o.place } ∷ []))
  where
    by_number : (number : Option ℕ) → list_all (λ (r : CheckedRename). is_component frame r.component) (cons_option (option_map (λ (n : ℕ). record { component = n; name = o.name }) number) []) ≡ true
        → option_map_or (λ (b : OrderedBy). is_component frame b.component) (option_map (λ (n : ℕ). record { component = n; direction = unwrap_or o.direction Ascending }) number) true ≡ true
    by_number None there = refl
    by_number (Some n) there = left (is_component frame n) true there

pub parts-are : (frame : Frame) (over : Over) → may_part frame over ≡ true → are_parts frame (parts_of frame over) ≡ true
parts-are frame over may =
    let there = λ (b : OrderedBy). is_component frame b.component in
    let ordered = made-all (ordered_by frame) there (order_items over) (always-all (λ (o : OrderItem). option_map_or there (ordered_by frame o) true) (ordered-there frame) (order_items over)) in
    both (list_all (passes_at (has_role Identifier) frame) (parts_of frame over).partition) (list_all there (parts_of frame over).order) (partition-is frame over may) ordered

-- ---- measures

module _ (s : List Component) (over : Over) where
  -- a measure whose operator is well typed, and of its kind
  abbrev is_measure : AnalyticMeasure → Bool
  is_measure i = is_analytic (frame_of s) i.kind i.value

  abbrev HasParts : Type 0
  HasParts = are_parts (frame_of s) (parts_of (frame_of s) over) ≡ true

  measures-are : (takes : List Kind) (gives : Kind → Kind) (of : ℕ → Analytic) → TakesOwn takes → takes_all takes s ≡ true → HasParts
      → ((kind : Kind) (n : ℕ) → is_of_kind (frame_of s) kind (of n) ≡ passes_at (gives_of takes gives kind) (frame_of s) n)
      → list_all is_measure (on_measures (frame_of s) over gives of) ≡ true
  measures-are takes gives of own fit parts is =
      made-all made is_measure (numbers_of Measure s) (numbers-all (λ n. option_map_or is_measure (made n) true) (λ number. has_role Measure) s one)
    where
      measure : ℕ → Component → AnalyticMeasure
      measure n c = record { name = c.name; kind = gives c.kind; value = with_parts (frame_of s) over (of n) }

      made : ℕ → Option AnalyticMeasure
      made n = option_map (measure n) (slice_get s n)

      given : (n : ℕ) (c : Component) → slice_get s n ≡ Some c → agreed takes (Some c.kind ∷ []) ≡ Some c.kind → is_of_kind (frame_of s) (gives c.kind) (of n) ≡ true
      given n c there at =
          is (gives c.kind) n ∙ ap (λ (o : Option Component). option_map_or (gives_of takes gives (gives c.kind)) o false) there
          ∙ ap (λ (o : Option Kind). option_map_or (λ k. is_kind (gives k) (gives c.kind)) o false) at ∙ is_kind-refl (gives c.kind)

      one : (n : ℕ) (c : Component) → slice_get s n ≡ Some c → has_role Measure c ≡ true → option_map_or is_measure (made n) true ≡ true
      one n c there measured =
          let taken = asked (has_role Measure c) (is_some (agreed takes (Some c.kind ∷ []))) measured (one-of-all (λ d. not (has_role Measure d) || is_some (agreed takes (Some d.kind ∷ []))) s n c fit there) in
          let well = both (are_parts (frame_of s) (parts_of (frame_of s) over)) (is_of_kind (frame_of s) (gives c.kind) (of n)) parts (given n c there (own c.kind taken)) in
          subst (λ (o : Option Component). option_map_or is_measure (option_map (measure n) o) true ≡ true) (sym there) well

  items-are : (f : WindowFunction) → takes_all (window_takes f) s ≡ true → HasParts → list_all is_measure (window_items f (frame_of s) over) ≡ true
  items-are Count fit parts = both (is_measure (points_counted (frame_of s) over)) true (both (are_parts (frame_of s) (parts_of (frame_of s) over)) true parts refl) refl
  items-are Sum fit parts = measures-are (window_takes Sum) (window_gives Sum) (λ n. window_of Sum n over) numeric-own fit parts (λ kind n. refl)
  items-are Avg fit parts = measures-are (window_takes Avg) (window_gives Avg) (λ n. window_of Avg n over) numeric-own fit parts (λ kind n. refl)
  items-are Min fit parts = measures-are (window_takes Min) (window_gives Min) (λ n. window_of Min n over) any-own fit parts (λ kind n. refl)
  items-are Max fit parts = measures-are (window_takes Max) (window_gives Max) (λ n. window_of Max n over) any-own fit parts (λ kind n. refl)
  items-are Median fit parts = measures-are (window_takes Median) (window_gives Median) (λ n. window_of Median n over) numeric-own fit parts (λ kind n. refl)
  items-are FirstValue fit parts = measures-are (window_takes FirstValue) (window_gives FirstValue) (λ n. window_of FirstValue n over) any-own fit parts (λ kind n. refl)
  items-are LastValue fit parts = measures-are (window_takes LastValue) (window_gives LastValue) (λ n. window_of LastValue n over) any-own fit parts (λ kind n. refl)
  items-are RatioToReport fit parts = measures-are (window_takes RatioToReport) (window_gives RatioToReport) (λ n. window_of RatioToReport n over) numeric-own fit parts (λ kind n. refl)

-- ---- what typing answers

-- where the kinds fit and the parts are such, the measures are well typed
measures-typed : (place : Place) (s : List Component) (over : Over) (takes : List Kind) (stated within : Bool) (items : List AnalyticMeasure) (w : CheckedWindow)
    → (takes_all takes s ≡ true → HasParts s over → list_all (is_measure s over) items ≡ true)
    → measures_typed place s over takes stated within items ≡ Ok w → is_window w s ≡ true
measures-typed place s over takes stated within items w well h =
    let frame = frame_of s in
    let known = knows frame over in
    let fits = takes_all takes s in
    let may = may_part frame over in
    let differ = names_differ (unordered items s) in
    let room = has_room (unordered items s) in
    let answer = met place ((known, UnknownComponent) ∷ (fits, WrongType) ∷ (stated, WrongStructure) ∷ (may, WrongRole) ∷ (differ, NameTwice) ∷ (room, TooManyComponents) ∷ (within, BadConstant) ∷ []) (Ok (window.Measures items)) w h in
    let rest = differ && (room && (within && true)) in
    let fitting = right known (fits && (stated && (may && rest))) answer.0 in
    let parting = right stated (may && rest) (right fits (stated && (may && rest)) fitting) in
    subst (λ (v : CheckedWindow). is_window v s ≡ true) (answered (window.Measures items) w answer.1)
    (well (left fits (stated && (may && rest)) fitting) (parts-are frame over (left may rest parting)))

pub window-typed : (f : WindowFunction) (over : Over) (place : Place) (s : List Component) (w : CheckedWindow) → window_checked f over place s ≡ Ok w → is_window w s ≡ true
window-typed f over place s w h =
    measures-typed place s over (window_takes f) (may_state (takes_window f) over) (points_within over.points) (window_items f (frame_of s) over) w (items-are s over f) h

pub offset-typed : (f : OffsetFunction) (offset : ℤ) (over : Over) (place : Place) (s : List Component) (w : CheckedWindow) → offset_checked f offset over place s ≡ Ok w → is_window w s ≡ true
offset-typed f offset over place s w h =
    measures-typed place s over ANY (is_none over.points) (is_offset offset) (on_measures (frame_of s) over (λ kind. kind) (λ number. analytic.Offset f number offset)) w
    (λ fit parts. measures-are s over ANY (λ kind. kind) (λ number. analytic.Offset f number offset) any-own fit parts (λ kind n. refl)) h
