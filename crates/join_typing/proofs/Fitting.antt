-- What clauses leave of a frame that fits inside a join fits there.
use Rattle.std.proofs.Common.{◌≡◌, ◌≢◌, refl, ℕ, ◌≤◌, Bool, true, false, ◌&&◌, ◌||◌, List, [], ◌∷◌, ◌++◌, map, Option, Some, None, Ok, length, ap, sym, subst, ◌∙◌, arith, nat_le, if◌then◌else◌}
use Rattle.std.specs.Prelude.{fold, slice_get, slice_set}
use Rattle.std.specs.Option.{option_map_or}
use Rattle.std.specs.List.{All, AllPairs, filter_map, list_any}
use Rattle.std.proofs.lemmas.Bool.Decides.{nat_tests}
use Rattle.std.proofs.lemmas.List.{length-set}
use Rattle.std.proofs.lemmas.List.Elements.{All-head, All-tail, All-append, All-weaker, filter_map-append}
use Rattle.vtl_values.specs.declared.kind.Kind.{Kind}
use Rattle.vtl_values.specs.declared.kind.Kind.TheVariants as kind
use Rattle.vtl_values.specs.declared.kind.Role.{Role}
use Rattle.vtl_values.specs.declared.kind.Role.TheVariants.{Identifier, Measure, Attribute, Viral}
use Rattle.vtl_values.specs.declared.place.Place.{Place}
use Rattle.vtl_values.specs.declared.structure.Component.{Component}
use Rattle.vtl_values.specs.Structures.{place_of as role_place}
use Rattle.vtl_syntax.specs.declared.expr.Clause.{Clause, out-Clause}
use Rattle.vtl_syntax.specs.declared.expr.Clause.TheOpen.{Clause-F}
use Rattle.vtl_syntax.specs.declared.expr.Expr.{Expr}
use Rattle.vtl_syntax.specs.declared.expr.Groups.{Groups}
use Rattle.vtl_syntax.specs.declared.expr.Item.{Item}
use Rattle.vtl_syntax.specs.declared.expr.JoinOperand.{JoinOperand}
use Rattle.vtl_syntax.specs.declared.expr.SubstrRange.{SubstrRange}
use Rattle.scalar_trees.specs.declared.typing.scope.Basis.TheVariants.{Point}
use Rattle.scalar_trees.specs.declared.typing.stop.Fault.TheVariants as fault
use Rattle.scalar_trees.specs.typing.Scalars.{typed, wanted, place_of}
use Rattle.scalar_trees.specs.typing.Steps.{◌>>=◌}
use Rattle.scalar_trees.proofs.typing.Sound.{left, right}
use Rattle.data_set_trees.specs.declared.clauses.clause.CheckedClause.{CheckedClause}
use Rattle.data_set_trees.specs.declared.clauses.clause.CheckedClause.TheVariants as clause
use Rattle.data_set_trees.specs.declared.clauses.clause.CheckedItem.{CheckedItem}
use Rattle.data_set_trees.specs.declared.clauses.clause.CheckedRename.{CheckedRename}
use Rattle.data_set_trees.specs.declared.clauses.clause.Target.{Target}
use Rattle.data_set_trees.specs.declared.clauses.clause.Target.TheVariants.{Old, New}
use Rattle.data_set_trees.specs.declared.clauses.frame.Frame.{Frame}
use Rattle.data_set_trees.specs.clauses.Frames.{scope_of_frame, has_role, numbers_of, kept, by_role, changed_at}
use Rattle.data_set_trees.specs.clauses.After.{made, put, with_item, calculated, with_rename, renamed, staying, measure_kind, unpivoted, is_kept, is_left, after}
use Rattle.data_set_trees.specs.clauses.Clauses.{IsItemOf, MOST_COMPONENTS, filter_typed, calc_typed, may_calculate, targets_differ, has_room, are_known, may_keep, may_drop, numbers_named, are_known_renames, renames_checked, renames_differ, are_known_items, subs_checked, are_comparable, are_identifiers, are_present, are_alike, has_measure, names_differ}
use Rattle.data_set_trees.proofs.clauses.Changes.{All-changed, AllPairs-changed, All-added}
use Rattle.data_set_trees.proofs.clauses.Made.{IsPlain, items_plain, met}
use Rattle.data_set_trees.proofs.clauses.Ordered.{part}
use Rattle.data_set_trees.proofs.clauses.Parts.{picked_are, left_from, left_all, left_pairs}
use Rattle.data_set_trees.specs.declared.windows.analytic.AnalyticItem.{AnalyticItem}
use Rattle.data_set_trees.specs.declared.windows.analytic.CheckedWindow.{CheckedWindow}
use Rattle.data_set_trees.specs.declared.windows.analytic.CheckedWindow.TheVariants as window
use Rattle.data_set_trees.specs.windows.Results as windows
use Rattle.data_set_trees.specs.windows.Results.{as_item}
use Rattle.data_set_trees.specs.windows.Windows.{calc_checked}
use Rattle.expression_rules.specs.declared.point_clause.PointClause.{PointClause}
use Rattle.expression_rules.specs.declared.point_clause.PointClause.TheVariants.{Alone, Analytic}
use Rattle.expression_rules.specs.JoinClauses.{Placed, inside}
use Rattle.expression_rules.specs.OnClauses.{items_checked, clause_step, clause_checked, all_analytic_checked, is_analytic, on_parts, alone, point_step, point_checked}
use Rattle.expression_rules.specs.PointClauses as points
use Rattle.data_set_parts.specs.Joins.{IsSound, IsOf}
use Rattle.data_set_parts.proofs.Follows.{gave}
use Rattle.join_typing.specs.Inside.{FitInside, EachFits, KeepsFitting}
use Rattle.join_typing.proofs.Items.{answered, made_of, items_are, plain_are}
use Rattle.join_typing.proofs.Order.{InOrder, At, ordered_at, ordered_append, ordered, ordered_are, ordered_in_order, all_ordered, length-ordered, length-left}

-- ---- components that pass

left_fits : (passes : ℕ → Component → Bool) (cs : List Component) → FitInside cs → FitInside (left_from passes 0 cs)
left_fits passes cs fit = let fewer = length-left passes 0 cs in let few = fit.few in record {
  in_order = left_pairs InOrder passes 0 cs fit.in_order;
  sound = left_all IsSound passes 0 cs fit.sound;
  few = omega (arith, fewer, few);
}

kept_fits : (passes : ℕ → Component → Bool) (frame : Frame) → FitInside frame.components → FitInside (kept passes frame).components
kept_fits passes frame fit = subst FitInside (sym (picked_are passes [] frame.components)) (left_fits passes frame.components fit)

-- ---- by role

pub within : (n : ℕ) → nat_le n MOST_COMPONENTS ≡ true → n ≤ MOST_COMPONENTS
within n h = grind (arith, nat_tests)

by_role_fits : (frame : Frame) → All IsSound frame.components → has_room frame ≡ true → FitInside (by_role frame).components
by_role_fits frame sound room =
    let cs = frame.components in
    let few = within (length cs) room in
    let same = length-ordered cs in
    subst FitInside (sym (ordered_are frame)) (record { in_order = ordered_in_order cs; sound = all_ordered IsSound cs sound; few = omega (arith, few, same) })

-- ---- calc

viral_stays : (r : Role) → IsPlain r → r ≢ Viral
viral_stays Identifier h same = cc
viral_stays Measure h same = cc
viral_stays Attribute h same = cc
viral_stays Viral h same = cc

made_sound : (role : Role) (kind : Kind) (name : List ℕ) → role ≢ Viral → IsSound (made role kind name)
made_sound role kind name plain = record { viral_listed = λ viral. absurd (plain viral); codes_fit = tt }

put_sound : (t : Target) (role : Role) (kind : Kind) (frame : Frame) → role ≢ Viral → All IsSound frame.components → All IsSound (put t role kind frame).components
put_sound (Old number) role kind frame plain sound = All-changed IsSound (λ c. made role kind c.name) (λ c own. made_sound role kind c.name plain) number frame.components sound
put_sound (New name) role kind frame plain sound = All-added IsSound frame.components (made role kind name) sound (made_sound role kind name plain)

calculated_sound : (items : List CheckedItem) (frame : Frame) → All (λ i. IsPlain i.role) items → All IsSound frame.components → All IsSound (calculated items frame).components
calculated_sound [] frame plain sound = sound
calculated_sound (i ∷ is) frame plain sound =
    calculated_sound is (with_item frame i) (All-tail (λ j. IsPlain j.role) i is plain)
    (put_sound i.target i.role i.kind frame (viral_stays i.role (All-head (λ j. IsPlain j.role) i is plain)) sound)

-- ---- rename

length-changed : (change : Component → Component) (n : ℕ) (cs : List Component) → length (changed_at change n cs) ≡ length cs
length-changed change n cs = by_component (slice_get cs n)
  where
    by_component : (o : Option Component) → length (option_map_or (λ c. slice_set cs n (change c)) o cs) ≡ length cs
    by_component None = refl
    by_component (Some c) = length-set cs n (change c)

renamed_fits : (renames : List CheckedRename) (frame : Frame) → FitInside frame.components → FitInside (renamed renames frame).components
renamed_fits [] frame fit = fit
renamed_fits (r ∷ rs) frame fit =
    let name = λ (c : Component). record c { name = r.name } in
    let same = length-changed name r.component frame.components in
    let few = fit.few in
    renamed_fits rs (with_rename frame r) (record {
      in_order = AllPairs-changed InOrder name (λ c d h. h) (λ c d h. h) r.component frame.components fit.in_order;
      sound = All-changed IsSound name (λ c own. record { viral_listed = own.viral_listed; codes_fit = own.codes_fit }) r.component frame.components fit.sound;
      few = omega (arith, same, few);
    })

-- ---- unpivot

staying_are : (frame : Frame) → (staying frame).components ≡ part Identifier frame.components ++ part Viral frame.components
staying_are frame =
    let cs = frame.components in
    filter_map-append (slice_get cs) (numbers_of Identifier cs) (numbers_of Viral cs) ∙ (λ q. picked_are (λ number. has_role Identifier) [] cs q ++ picked_are (λ number. has_role Viral) [] cs q)

staying_sound : (frame : Frame) → All IsSound frame.components → All IsSound (staying frame).components
staying_sound frame sound =
    let cs = frame.components in
    subst (All IsSound) (sym (staying_are frame)) (All-append IsSound (part Identifier cs) (part Viral cs) (left_all IsSound (λ number. has_role Identifier) 0 cs sound) (left_all IsSound (λ number. has_role Viral) 0 cs sound))

unpivoted_sound : (identifier measure : List ℕ) (frame : Frame) → All IsSound frame.components → All IsSound (unpivoted identifier measure frame).components
unpivoted_sound identifier measure frame sound =
    let stay = (staying frame).components in
    let own = made Identifier kind.Text identifier in
    let its = made Measure (measure_kind frame.components) measure in
    All-added IsSound (stay ++ own ∷ []) its (All-added IsSound stay own (staying_sound frame sound) (made_sound Identifier kind.Text identifier (λ same. cc))) (made_sound Measure (measure_kind frame.components) measure (λ same. cc))

-- ---- a clause

module _ (frame : Frame) (fit : FitInside frame.components) where
  abbrev Keeps : CheckedClause → Type 0
  Keeps c = FitInside (after c frame).components

  calc_fits : (place : Place) (items : List CheckedItem) (c : CheckedClause) → All (IsItemOf frame) items → calc_typed place items frame ≡ Ok c → Keeps c
  calc_fits place items c made h =
      let may = may_calculate frame items in
      let differ = targets_differ items in
      let room = has_room (calculated items frame) in
      let given = met place ((may, fault.WrongRole) ∷ (differ, fault.NameTwice) ∷ (room, fault.TooManyComponents) ∷ []) (clause.Calc items) c h in
      let plain = items_plain frame items (left may (differ && (room && true)) given.0) made in
      subst Keeps given.1 (by_role_fits (calculated items frame) (calculated_sound items frame plain fit.sound) (left room true (right differ (room && true) (right may (differ && (room && true)) given.0))))

  step_fits : (x : Clause-F Clause Expr Groups Item JoinOperand SubstrRange) (c : CheckedClause) → clause_step x frame ≡ Ok c → Keeps c
  step_fits (Clause-F.Filter condition place) c h =
      let value = gave (typed (scope_of_frame frame) Point condition) (filter_typed place) c h in
      let given = made_of (wanted place kind.Truth value.0) (λ t. clause.Filter t) c value.2 in
      subst Keeps given.1 fit
  step_fits (Clause-F.Calc items place) c h =
      let all = gave (items_checked frame items) (λ checked. calc_typed place checked frame) c h in
      calc_fits place all.0 c (items_are frame items all.0 all.1) all.2
  step_fits (Clause-F.Keep names place) c h =
      let numbers = numbers_named frame names in
      let given = met place ((are_known frame names, fault.UnknownComponent) ∷ (may_keep frame numbers, fault.WrongRole) ∷ []) (clause.Keep numbers) c h in
      subst Keeps given.1 (kept_fits (is_kept numbers) frame fit)
  step_fits (Clause-F.Drop names place) c h =
      let numbers = numbers_named frame names in
      let given = met place ((are_known frame names, fault.UnknownComponent) ∷ (may_drop frame numbers, fault.WrongRole) ∷ []) (clause.Drop numbers) c h in
      subst Keeps given.1 (kept_fits (is_left numbers) frame fit)
  step_fits (Clause-F.Rename renames place) c h =
      let checked = renames_checked frame renames in
      let given = met place ((are_known_renames frame renames, fault.UnknownComponent) ∷ (renames_differ frame checked, fault.NameTwice) ∷ []) (clause.Rename checked) c h in
      subst Keeps given.1 (renamed_fits checked frame fit)
  step_fits (Clause-F.Sub items place) c h =
      let subs = subs_checked frame items in
      let given = met place ((are_known_items frame items, fault.UnknownComponent) ∷ (are_comparable frame subs, fault.WrongType) ∷ (are_identifiers frame subs, fault.WrongRole) ∷ (are_present subs, fault.BadConstant) ∷ []) (clause.Sub subs) c h in
      subst Keeps given.1 (kept_fits (is_left (map (λ i. i.component) subs)) frame fit)
  step_fits (Clause-F.Unpivot identifier measure place) c h =
      let whole = unpivoted identifier measure frame in
      let alike = are_alike frame.components in
      let some = has_measure frame.components in
      let differ = names_differ whole in
      let room = has_room whole in
      let given = met place ((alike, fault.WrongType) ∷ (some, fault.WrongStructure) ∷ (differ, fault.NameTwice) ∷ (room, fault.TooManyComponents) ∷ []) (clause.Unpivot identifier measure) c h in
      let has = left room true (right differ (room && true) (right some (differ && (room && true)) (right alike (some && (differ && (room && true))) given.0))) in
      subst Keeps given.1 (by_role_fits whole (unpivoted_sound identifier measure frame fit.sound) has)
  step_fits (Clause-F.Aggr items groups place) c h = cc

  clause_fits : (written : Clause) (c : CheckedClause) → clause_checked written frame ≡ Ok c → FitInside (after c frame).components
  clause_fits written c h = step_fits (out-Clause written) c h

  -- ---- a clause on points

  abbrev Leaves : PointClause → Type 0
  Leaves k = FitInside (points.after k frame).components

  alone_fits : (written : Clause) (k : PointClause) → alone written frame ≡ Ok k → Leaves k
  alone_fits written k h =
      let checked = gave (clause_checked written frame) (λ c. Ok (Alone c)) k h in
      subst Leaves (answered (Alone checked.0) k checked.2) (clause_fits written checked.0 checked.1)

  calc_is : (place : Place) (cs : List CheckedItem) (c : CheckedClause) → calc_typed place cs frame ≡ Ok c → Keeps c → FitInside (by_role (calculated cs frame)).components
  calc_is place cs c h own =
      let given = met place ((may_calculate frame cs, fault.WrongRole) ∷ (targets_differ cs, fault.NameTwice) ∷ (has_room (calculated cs frame), fault.TooManyComponents) ∷ []) (clause.Calc cs) c h in
      subst Keeps (sym given.1) own

  parts_fit_on : (items : List Item) (place : Place) (k : PointClause) → on_parts items place frame ≡ Ok k → Leaves k
  parts_fit_on items place k h =
      let all = gave (all_analytic_checked frame items) (λ checked. calc_checked place checked frame >>= (λ w. Ok (Analytic w))) k h in
      let plain = map as_item all.0 in
      let whole = gave (calc_checked place all.0 frame) (λ w. Ok (Analytic w)) k all.2 in
      let clause_of = gave (calc_typed place plain frame) (λ met. Ok (window.Calc all.0)) whole.0 whole.1 in
      let own = calc_fits place plain clause_of.0 (plain_are frame items all.0 all.1) clause_of.1 in
      subst Leaves (answered (Analytic whole.0) k whole.2)
      (subst (λ (w : CheckedWindow). FitInside (windows.after w frame).components) (answered (window.Calc all.0) whole.0 clause_of.2) (calc_is place plain clause_of.0 clause_of.1 own))

  point_step_fits : (x : Clause-F Clause Expr Groups Item JoinOperand SubstrRange) (written : Clause) (k : PointClause) → point_step x written frame ≡ Ok k → Leaves k
  point_step_fits (Clause-F.Calc items place) written k h = by_test (list_any is_analytic items) h
    where
      by_test : (b : Bool) → (if b then on_parts items place frame else alone written frame) ≡ Ok k → Leaves k
      by_test true is = parts_fit_on items place k is
      by_test false is = alone_fits written k is
  point_step_fits (Clause-F.Filter condition place) written k h = alone_fits written k h
  point_step_fits (Clause-F.Keep names place) written k h = alone_fits written k h
  point_step_fits (Clause-F.Drop names place) written k h = alone_fits written k h
  point_step_fits (Clause-F.Rename renames place) written k h = alone_fits written k h
  point_step_fits (Clause-F.Sub items place) written k h = alone_fits written k h
  point_step_fits (Clause-F.Unpivot identifier measure place) written k h = alone_fits written k h
  point_step_fits (Clause-F.Aggr items groups place) written k h = alone_fits written k h

  pub point_fits : (written : Clause) (k : PointClause) → point_checked written frame ≡ Ok k → FitInside (points.after k frame).components
  point_fits written k h = point_step_fits (out-Clause written) written k h

-- ---- the clauses, one after the other

pub keeps_fitting : KeepsFitting
keeps_fitting [] frame checked fit h = let none : [] ≡ checked = cc in subst (λ (cs : List Placed). EachFits cs frame) none fit
keeps_fitting (c ∷ cs) frame checked fit h =
    let first = gave (point_checked c frame) (λ k. inside cs (points.after k frame) >>= (λ others. Ok (record { clause = k; place = place_of c } ∷ others))) checked h in
    let own : Placed = record { clause = first.0; place = place_of c } in
    let others = gave (inside cs (points.after first.0 frame)) (λ others. Ok (own ∷ others)) checked first.2 in
    let same : own ∷ others.0 ≡ checked = cc in
    subst (λ (ps : List Placed). EachFits ps frame) same (fit, keeps_fitting cs (points.after first.0 frame) others.0 (point_fits frame fit c first.0 first.1) others.1)

-- ---- the join

sound_of : (r : Role) (cs : List Component) → All (IsOf r) cs → All IsSound cs
sound_of r cs all = All-weaker (IsOf r) IsSound (λ c own. own.sound) cs all

placed_of : (r : Role) (cs : List Component) → All (IsOf r) cs → All (At (role_place r)) cs
placed_of r cs all = All-weaker (IsOf r) (At (role_place r)) (λ c own. ap role_place (sym own.role)) cs all

-- identifiers, measures and viral attributes fit
pub parts_fit : (ids ms vs : List Component) → All (IsOf Identifier) ids → All (IsOf Measure) ms → All (IsOf Viral) vs → length ((ids ++ ms) ++ vs) ≤ MOST_COMPONENTS → FitInside ((ids ++ ms) ++ vs)
parts_fit ids ms vs first second third few =
    let two = ordered_append 0 1 (omega arith) ids ms (ordered_at 0 ids (placed_of Identifier ids first)) (placed_of Measure ms second) in
    record {
      in_order = (ordered_append 1 3 (omega arith) (ids ++ ms) vs two (placed_of Viral vs third)).pairs;
      sound = All-append IsSound (ids ++ ms) vs (All-append IsSound ids ms (sound_of Identifier ids first) (sound_of Measure ms second)) (sound_of Viral vs third);
      few = few;
    }
