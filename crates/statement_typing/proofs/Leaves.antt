-- What a clause leaves of a data set's structure is a structure.
use Rattle.std.proofs.Common.{◌≡◌, Bool, true, false, List, [], ◌∷◌, map, Result, Ok, sym, ap, subst, ◌∙◌, if◌then◌else◌}
use Rattle.std.specs.List.{list_any}
use Rattle.vtl_values.specs.declared.place.Place.{Place}
use Rattle.vtl_values.specs.declared.kind.Kind.TheVariants.{Truth}
use Rattle.vtl_values.specs.declared.structure.Component.{Component}
use Rattle.vtl_values.specs.Structures.{IsStructure}
use Rattle.vtl_syntax.specs.declared.expr.Clause.{Clause, out-Clause}
use Rattle.vtl_syntax.specs.declared.expr.Clause.TheOpen.{Clause-F}
use Rattle.vtl_syntax.specs.declared.expr.Expr.{Expr}
use Rattle.vtl_syntax.specs.declared.expr.Groups.{Groups}
use Rattle.vtl_syntax.specs.declared.expr.Item.{Item}
use Rattle.vtl_syntax.specs.declared.expr.JoinOperand.{JoinOperand}
use Rattle.vtl_syntax.specs.declared.expr.SubstrRange.{SubstrRange}
use Rattle.scalar_trees.specs.declared.typing.scope.Basis.TheVariants.{Point}
use Rattle.scalar_trees.specs.declared.typing.stop.Fault.TheVariants.{UnknownComponent, WrongType, WrongRole, BadConstant}
use Rattle.scalar_trees.specs.declared.typing.stop.Refusal.{Refusal}
use Rattle.scalar_trees.specs.typing.Scalars.{typed, wanted}
use Rattle.scalar_trees.specs.typing.Steps.{◌>>=◌}
use Rattle.data_set_trees.specs.declared.clauses.clause.CheckedClause.{CheckedClause}
use Rattle.data_set_trees.specs.declared.clauses.clause.CheckedClause.TheVariants as clause
use Rattle.data_set_trees.specs.declared.clauses.frame.Frame.{Frame}
use Rattle.data_set_trees.specs.clauses.Frames.{frame_of, scope_of_frame}
use Rattle.data_set_trees.specs.clauses.After.{after, is_kept, is_left}
use Rattle.data_set_trees.specs.clauses.Clauses.{filter_typed, calc_typed, are_known, may_keep, may_drop, numbers_named, are_known_items, subs_checked, are_comparable, are_identifiers, are_present}
use Rattle.data_set_trees.proofs.clauses.Made.{met, calc_gives, rename_gives, unpivot_gives}
use Rattle.data_set_trees.proofs.clauses.Parts.{leaves_structures}
use Rattle.data_set_trees.specs.declared.windows.analytic.CheckedWindow.{CheckedWindow}
use Rattle.data_set_trees.specs.windows.Results as windows
use Rattle.data_set_trees.specs.windows.Windows.{calc_checked}
use Rattle.data_set_trees.proofs.windows.Made.{calc_gives_structures}
use Rattle.expression_rules.specs.declared.point_clause.PointClause.{PointClause}
use Rattle.expression_rules.specs.declared.point_clause.PointClause.TheVariants.{Alone, Analytic}
use Rattle.expression_rules.specs.OnClauses.{items_checked, clause_step, clause_checked, all_analytic_checked, is_analytic, on_parts, alone, point_step, point_checked}
use Rattle.data_set_parts.specs.Results.{structure_after}
use Rattle.data_set_parts.proofs.Fits.{unlisted_is}
use Rattle.data_set_parts.proofs.Follows.{gave}
use Rattle.join_typing.proofs.Items.{answered, made_of, items_are, all_are}

module _ (s : List Component) (is : IsStructure s) where
  abbrev IsLeft : CheckedClause → Type 0
  IsLeft c = IsStructure (after c (frame_of s)).components

  leaves : (x : Clause-F Clause Expr Groups Item JoinOperand SubstrRange) (c : CheckedClause) → clause_step x (frame_of s) ≡ Ok c → IsLeft c
  leaves (Clause-F.Filter condition place) c h =
      let value = gave (typed (scope_of_frame (frame_of s)) Point condition) (filter_typed place) c h in
      let made = made_of (wanted place Truth value.0) (λ t. clause.Filter t) c value.2 in
      subst IsLeft made.1 is
  leaves (Clause-F.Calc items place) c h =
      let all = gave (items_checked (frame_of s) items) (λ checked. calc_typed place checked (frame_of s)) c h in
      calc_gives place all.0 s c is (items_are (frame_of s) items all.0 all.1) all.2
  leaves (Clause-F.Keep names place) c h =
      let frame = frame_of s in
      let numbers = numbers_named frame names in
      let given = met place ((are_known frame names, UnknownComponent) ∷ (may_keep frame numbers, WrongRole) ∷ []) (clause.Keep numbers) c h in
      subst IsLeft given.1 (leaves_structures (is_kept numbers) frame is)
  leaves (Clause-F.Drop names place) c h =
      let frame = frame_of s in
      let numbers = numbers_named frame names in
      let given = met place ((are_known frame names, UnknownComponent) ∷ (may_drop frame numbers, WrongRole) ∷ []) (clause.Drop numbers) c h in
      subst IsLeft given.1 (leaves_structures (is_left numbers) frame is)
  leaves (Clause-F.Rename renames place) c h = rename_gives place renames s c is h
  leaves (Clause-F.Sub items place) c h =
      let frame = frame_of s in
      let subs = subs_checked frame items in
      let given = met place ((are_known_items frame items, UnknownComponent) ∷ (are_comparable frame subs, WrongType) ∷ (are_identifiers frame subs, WrongRole) ∷ (are_present subs, BadConstant) ∷ []) (clause.Sub subs) c h in
      subst IsLeft given.1 (leaves_structures (is_left (map (λ i. i.component) subs)) frame is)
  leaves (Clause-F.Unpivot identifier measure place) c h = unpivot_gives place identifier measure s c is h
  leaves (Clause-F.Aggr items groups place) c h = cc

  alone_leaves : (clause : Clause) (c : CheckedClause) → clause_checked clause (frame_of s) ≡ Ok c → IsStructure (structure_after c s)
  alone_leaves clause c checked = unlisted_is (after c (frame_of s)).components (leaves (out-Clause clause) c checked)

  -- ---- on parts

  abbrev IsLeftOver : CheckedWindow → Type 0
  IsLeftOver w = IsStructure (windows.after w (frame_of s)).components

  same_window : (v w : CheckedWindow) → ◌≡◌ {A = Result PointClause Refusal} (Ok (Analytic v)) (Ok (Analytic w)) → v ≡ w
  same_window v w h = cc

  parts_leave : (items : List Item) (place : Place) (w : CheckedWindow) → on_parts items place (frame_of s) ≡ Ok (Analytic w) → IsLeftOver w
  parts_leave items place w h =
      let all = gave (all_analytic_checked (frame_of s) items) (λ checked. calc_checked place checked (frame_of s) >>= (λ v. Ok (Analytic v))) (Analytic w) h in
      let made = gave (calc_checked place all.0 (frame_of s)) (λ v. Ok (Analytic v)) (Analytic w) all.2 in
      subst IsLeftOver (same_window made.0 w made.2) (calc_gives_structures place all.0 s made.0 is (all_are (frame_of s) items all.0 all.1) made.1)

  -- ---- a clause on points

  -- what it leaves
  Left : PointClause → Type 0
  Left (Alone c) = IsStructure (structure_after c s)
  Left (Analytic w) = IsLeftOver w

  alone_left : (clause : Clause) (k : PointClause) → alone clause (frame_of s) ≡ Ok k → Left k
  unfolding Left
  alone_left clause k h =
      let checked = gave (clause_checked clause (frame_of s)) (λ c. Ok (Alone c)) k h in
      subst Left (answered (Alone checked.0) k checked.2) (alone_leaves clause checked.0 checked.1)

  parts_left : (items : List Item) (place : Place) (k : PointClause) → on_parts items place (frame_of s) ≡ Ok k → Left k
  unfolding Left
  parts_left items place (Analytic w) h = parts_leave items place w h
  parts_left items place (Alone c) h =
      let all = gave (all_analytic_checked (frame_of s) items) (λ checked. calc_checked place checked (frame_of s) >>= (λ v. Ok (Analytic v))) (Alone c) h in
      let made = gave (calc_checked place all.0 (frame_of s)) (λ v. Ok (Analytic v)) (Alone c) all.2 in
      none made.0 made.2
    where
      none : (v : CheckedWindow) → ◌≡◌ {A = Result PointClause Refusal} (Ok (Analytic v)) (Ok (Alone c)) → IsStructure (structure_after c s)
      none v h = cc

  step_left : (x : Clause-F Clause Expr Groups Item JoinOperand SubstrRange) (clause : Clause) (k : PointClause) → point_step x clause (frame_of s) ≡ Ok k → Left k
  step_left (Clause-F.Calc items place) clause k h = by_test (list_any is_analytic items) h
    where
      by_test : (b : Bool) → (if b then on_parts items place (frame_of s) else alone clause (frame_of s)) ≡ Ok k → Left k
      by_test true is = parts_left items place k is
      by_test false is = alone_left clause k is
  step_left (Clause-F.Filter condition place) clause k h = alone_left clause k h
  step_left (Clause-F.Keep names place) clause k h = alone_left clause k h
  step_left (Clause-F.Drop names place) clause k h = alone_left clause k h
  step_left (Clause-F.Rename renames place) clause k h = alone_left clause k h
  step_left (Clause-F.Sub items place) clause k h = alone_left clause k h
  step_left (Clause-F.Unpivot identifier measure place) clause k h = alone_left clause k h
  step_left (Clause-F.Aggr items groups place) clause k h = alone_left clause k h

  left_by : (clause : Clause) (frame : Frame) (k : PointClause) → frame ≡ frame_of s → point_checked clause frame ≡ Ok k → Left k
  left_by clause frame k same checked = step_left (out-Clause clause) clause k (ap (point_checked clause) (sym same) ∙ checked)

  pub leaves_structure : (clause : Clause) (frame : Frame) (c : CheckedClause) → frame ≡ frame_of s → point_checked clause frame ≡ Ok (Alone c) → IsStructure (structure_after c s)
  unfolding Left
  leaves_structure clause frame c same checked = left_by clause frame (Alone c) same checked

  pub leaves_on_parts : (clause : Clause) (frame : Frame) (w : CheckedWindow) → frame ≡ frame_of s → point_checked clause frame ≡ Ok (Analytic w) → IsStructure (windows.after w (frame_of s)).components
  unfolding Left
  leaves_on_parts clause frame w same checked = left_by clause frame (Analytic w) same checked
