-- What analytic operators give on a structure is one.
use Rattle.std.proofs.Common.{◌≡◌, ◌≢◌, refl, true, ◌&&◌, List, [], ◌∷◌, ◌++◌, map, Result, Ok, Err, sym, subst}
use Rattle.std.specs.List.{All}
use Rattle.std.proofs.lemmas.List.Elements.{All-append, All-map, All-weaker}
use Rattle.vtl_values.specs.declared.kind.Role.TheVariants.{Identifier, Viral}
use Rattle.vtl_values.specs.declared.structure.Codes.TheVariants.{Any}
use Rattle.vtl_values.specs.declared.structure.Component.{Component}
use Rattle.vtl_values.specs.declared.value.Value.TheVariants.{Null}
use Rattle.vtl_values.specs.Structures.{IsStructure, FitsCodes}
use Rattle.scalar_trees.specs.declared.tree.CheckedExpr.TheVariants as tree
use Rattle.scalar_trees.specs.declared.typing.stop.Fault.TheVariants.{UnknownComponent, WrongType, WrongStructure, WrongRole, NameTwice, TooManyComponents, BadConstant}
use Rattle.scalar_trees.specs.declared.typing.stop.Refusal.{Refusal}
use Rattle.scalar_trees.specs.typing.Steps.{◌>>=◌}
use Rattle.scalar_trees.specs.typing.Scalars.{typed_as}
use Rattle.scalar_trees.proofs.typing.Sound.{left, right}
use Rattle.data_set_trees.specs.declared.clauses.clause.CheckedClause.{CheckedClause}
use Rattle.data_set_trees.specs.declared.clauses.clause.CheckedClause.TheVariants as clause
use Rattle.data_set_trees.specs.declared.clauses.clause.CheckedItem.{CheckedItem}
use Rattle.data_set_trees.specs.declared.clauses.frame.Frame.{Frame}
use Rattle.data_set_trees.specs.clauses.Clauses as clauses
use Rattle.data_set_trees.specs.clauses.Clauses.{calc_typed}
use Rattle.data_set_trees.specs.clauses.Frames.{frame_of, numbers_of}
use Rattle.data_set_trees.specs.clauses.Laws.{FitTogether}
use Rattle.data_set_trees.specs.clauses.After as after_clause
use Rattle.data_set_trees.proofs.clauses.Made.{calc_gives}
use Rattle.data_set_trees.proofs.clauses.Ordered.{orders_structures}
use Rattle.data_set_trees.specs.aggregates.Aggregates.{has_room, names_differ}
use Rattle.data_set_trees.specs.aggregates.Results.{with_numbers}
use Rattle.data_set_trees.proofs.aggregates.Grouped.{apart, met, numbered_all}
use Rattle.data_set_trees.specs.declared.windows.analytic.AnalyticItem.{AnalyticItem}
use Rattle.data_set_trees.specs.declared.windows.analytic.AnalyticMeasure.{AnalyticMeasure}
use Rattle.data_set_trees.specs.declared.windows.analytic.CheckedWindow.{CheckedWindow}
use Rattle.data_set_trees.specs.declared.windows.analytic.CheckedWindow.TheVariants as window
use Rattle.data_set_trees.specs.windows.Laws.{CalcGivesStructures, MeasuresGiveStructures}
use Rattle.data_set_trees.specs.windows.Parts.{knows, may_part}
use Rattle.data_set_trees.specs.windows.Results.{after, as_item, made_by, unordered}
use Rattle.data_set_trees.specs.windows.Windows.{IsItemOf, takes_all}

answered : (b a : CheckedWindow) (r : Result CheckedWindow Refusal) → r ≡ Ok b → r ≡ Ok a → b ≡ a
answered b a r is h = cc

-- ---- calc

-- the item is one of `calc` too
item_of : (frame : Frame) (i : AnalyticItem) → IsItemOf frame i → clauses.IsItemOf frame (as_item i)
item_of frame i own = record {
  stated = own.stated;
  name = own.name;
  value = typed_as own.kind (tree.Literal Null);
  is = subst (λ (j : AnalyticItem). as_item j ≡ clauses.item_typed frame own.stated own.name (typed_as own.kind (tree.Literal Null))) (sym own.is) refl;
}

pub calc_gives_structures : CalcGivesStructures
calc_gives_structures place items cs w is all h = by_clause (calc_typed place plain frame) refl h
  where
    frame : Frame
    frame = frame_of cs

    plain : List CheckedItem
    plain = map as_item items

    of_calc : All (clauses.IsItemOf frame) plain
    of_calc = All-map (clauses.IsItemOf frame) as_item items (All-weaker (IsItemOf frame) (λ i. clauses.IsItemOf frame (as_item i)) (item_of frame) items all)

    same_clause : (b a : CheckedClause) (r : Result CheckedClause Refusal) → r ≡ Ok b → r ≡ Ok a → b ≡ a
    same_clause b a r e i = cc

    calc-is : (c : CheckedClause) → calc_typed place plain frame ≡ Ok c → c ≡ clause.Calc plain
    calc-is c e =
        let answer = met place ((clauses.may_calculate frame plain, WrongRole) ∷ (clauses.targets_differ plain, NameTwice) ∷ (clauses.has_room (after_clause.calculated plain frame), TooManyComponents) ∷ []) (Ok (clause.Calc plain)) c e in
        sym (same_clause (clause.Calc plain) c (Ok (clause.Calc plain)) refl answer.1)

    by_clause : (r : Result CheckedClause Refusal) → calc_typed place plain frame ≡ r → (r >>= (λ met. Ok (window.Calc items))) ≡ Ok w → IsStructure (after w frame).components
    by_clause (Ok c) e i =
        let given = calc_gives place plain cs c is of_calc e in
        let same : c ≡ clause.Calc plain = calc-is c e in
        subst (λ (v : CheckedWindow). IsStructure (after v frame).components) (answered (window.Calc items) w (Ok (window.Calc items)) refl i)
        (subst (λ (d : CheckedClause). IsStructure (after_clause.after d frame).components) same given)
    by_clause (Err refusal) e i = cc

-- ---- on each measure

fit_together : (items : List AnalyticMeasure) (cs : List Component) → IsStructure cs → names_differ (unordered items cs) ≡ true → FitTogether (unordered items cs)
fit_together items cs is differ =
    let Listed : Component → Type 0 = λ c. c.role ≡ Viral → c.codes ≢ Any in
    let Fitting : Component → Type 0 = λ c. FitsCodes c.kind c.codes in
    let numbers = numbers_of Identifier cs ++ numbers_of Viral cs in
    record {
      names_differ = apart (unordered items cs) differ;
      viral_listed = All-append Listed (with_numbers cs numbers) (map made_by items) (numbered_all Listed cs is.viral_listed numbers) (All-map Listed made_by items (λ k d within viral. cc));
      codes_fit = All-append Fitting (with_numbers cs numbers) (map made_by items) (numbered_all Fitting cs is.codes_fit numbers) (All-map Fitting made_by items (λ k d within. tt));
    }

pub measures_give_structures : MeasuresGiveStructures
measures_give_structures place cs over takes stated within items w is h =
    let frame = frame_of cs in
    let known = knows frame over in
    let fits = takes_all takes cs in
    let may = may_part frame over in
    let differ = names_differ (unordered items cs) in
    let room = has_room (unordered items cs) in
    let answer = met place ((known, UnknownComponent) ∷ (fits, WrongType) ∷ (stated, WrongStructure) ∷ (may, WrongRole) ∷ (differ, NameTwice) ∷ (room, TooManyComponents) ∷ (within, BadConstant) ∷ []) (Ok (window.Measures items)) w h in
    let rest = room && (within && true) in
    let four = right known (fits && (stated && (may && (differ && rest)))) answer.0 in
    let three = right fits (stated && (may && (differ && rest))) four in
    let two = right stated (may && (differ && rest)) three in
    let one : differ ≡ true = left differ rest (right may (differ && rest) two) in
    subst (λ (v : CheckedWindow). IsStructure (after v frame).components) (answered (window.Measures items) w (Ok (window.Measures items)) refl answer.1)
    (orders_structures (frame_of (unordered items cs)) (fit_together items cs is one))
