-- A clause that typing gives is well typed, where the literals in it are in range.
use Rattle.std.proofs.Common.{◌≡◌, refl, Bool, true, false, cond, List, [], ◌∷◌, Option, Some, None, map, Ok, ap, sym, subst, ◌∙◌}
use Rattle.std.proofs.lemmas.List.Elements.{All-nil, All-cons}
use Rattle.std.specs.Prelude.{◌&&◌}
use Rattle.std.specs.List.{All}
use Rattle.vtl_values.specs.declared.kind.Kind.{Kind}
use Rattle.vtl_values.specs.declared.kind.Kind.TheVariants.{Truth, Text}
use Rattle.vtl_syntax.specs.declared.expr.Clause.{Clause, out-Clause, roll-out-Clause, fold-roll-Clause, map-Clause}
use Rattle.vtl_syntax.specs.declared.expr.Clause.TheOpen.{Clause-F}
use Rattle.vtl_syntax.specs.declared.expr.Expr.{Expr}
use Rattle.vtl_syntax.specs.declared.expr.Groups.{Groups}
use Rattle.vtl_syntax.specs.declared.expr.Item.{Item, out-Item, roll-out-Item, fold-roll-Item}
use Rattle.vtl_syntax.specs.declared.expr.JoinOperand.{JoinOperand}
use Rattle.vtl_syntax.specs.declared.expr.SubstrRange.{SubstrRange}
use Rattle.vtl_values.specs.declared.place.Place.{Place}
use Rattle.scalar_trees.specs.Kinds.{may_stand}
use Rattle.scalar_trees.specs.declared.tree.CheckedExpr.{CheckedExpr}
use Rattle.scalar_trees.specs.WellTyped.{Kinds, is_exactly, is_of_kind}
use Rattle.scalar_trees.specs.declared.typing.scope.Basis.TheVariants.{Point}
use Rattle.scalar_trees.specs.declared.typing.stop.Fault.TheVariants.{UnknownComponent, WrongType, WrongStructure, WrongRole, NameTwice, TooManyComponents, BadConstant}
use Rattle.scalar_trees.specs.declared.typing.typed.Typed.{Typed}
use Rattle.scalar_trees.specs.typing.Scalars.{typed, widened, wanted, whole_kind}
use Rattle.scalar_trees.specs.typing.Sound.{IsTyped}
use Rattle.scalar_trees.specs.typing.Steps.{◌>>=◌, or_refused}
use Rattle.scalar_trees.proofs.typing.Sound.{is_kind-refl, exact-own, widened-exact, both, left, right}
use Rattle.data_set_trees.specs.declared.clauses.clause.CheckedClause.{CheckedClause}
use Rattle.data_set_trees.specs.declared.clauses.clause.CheckedClause.TheVariants as clause
use Rattle.data_set_trees.specs.declared.clauses.clause.CheckedItem.{CheckedItem}
use Rattle.data_set_trees.specs.declared.clauses.frame.Frame.{Frame}
use Rattle.data_set_trees.specs.clauses.Frames.{scope_of_frame}
use Rattle.data_set_trees.specs.clauses.After.{calculated, unpivoted}
use Rattle.data_set_trees.specs.clauses.Clauses.{IsItemOf, filter_typed, item_typed, calc_typed, may_calculate, targets_differ, has_room, are_known, may_keep, may_drop, numbers_named, are_known_renames, renames_checked, renames_differ, are_known_items, subs_checked, are_comparable, are_identifiers, are_present, are_alike, has_measure, names_differ}
use Rattle.data_set_trees.specs.clauses.WellTyped.{kinds_on, is_of, is_well_typed}
use Rattle.data_set_trees.proofs.clauses.Made.{met}
use Rattle.data_set_trees.proofs.clauses.Typed.{items_well_typed, renames_there}
use Rattle.expression_rules.specs.OnClauses.{item_checked, items_checked, clause_step, clause_checked}
use Rattle.literal_ranges.specs.Ranges.{all_are, range_step, clause_range_step, item_range_step, operand_range_step, part_range_step, groups_range_step, literals_in_range, clause_in_range, item_in_range}
use Rattle.fitting_trees.proofs.Scalars.{answered, ranges, scalar-typed, gave}

whole-own : (first : Kind) (kind : Option Kind) → is_exactly kind (whole_kind first kind) ≡ true
whole-own first None = refl
whole-own first (Some kind) = is_kind-refl kind

-- a whole expression is of its kind, and the literal null of any
pub whole-is : (kinds : Kinds) (first : Kind) (t : Typed) → IsTyped kinds t → is_of_kind kinds t.tree (whole_kind first t.kind) ≡ true
whole-is kinds first t h = ap (λ (f : Kind → Bool). f (whole_kind first t.kind)) h ∙ whole-own first t.kind

-- an operand that may stand where a kind is wanted is of that kind there
pub widened-is : (kinds : Kinds) (kind : Kind) (a : Typed) → IsTyped kinds a → may_stand kind a.kind ≡ true → is_of_kind kinds (widened kind a) kind ≡ true
widened-is kinds kind a h stands = ap (λ (f : Kind → Bool). f kind) (widened-exact kinds kind a.kind a.tree h stands) ∙ exact-own kind a.kind

-- what is wanted is of that kind
pub wanted-is : (kinds : Kinds) (place : Place) (kind : Kind) (a : Typed) (t : CheckedExpr) → IsTyped kinds a → wanted place kind a ≡ Ok t → is_of_kind kinds t kind ≡ true
wanted-is kinds place kind a t h e = by_kind (may_stand kind a.kind) refl e
  where
    by_kind : (b : Bool) → may_stand kind a.kind ≡ b → (or_refused (cond (b && true) (Some kind) None) WrongType place >>= (λ r. Ok (widened r a))) ≡ Ok t → is_of_kind kinds t kind ≡ true
    by_kind true stands i = subst (λ (u : CheckedExpr). is_of_kind kinds u kind ≡ true) (answered (widened kind a) t i) (widened-is kinds kind a h stands)
    by_kind false stands i = cc

-- ---- ranges, level by level

abbrev pub level_range : Clause-F Clause Expr Groups Item JoinOperand SubstrRange → Bool
level_range x = clause_range_step (map-Clause Clause Expr Groups Item JoinOperand SubstrRange Bool Bool Bool Bool Bool Bool ranges.on_Clause ranges.on_Expr ranges.on_Groups ranges.on_Item ranges.on_JoinOperand ranges.on_SubstrRange x)

pub clause-range : (c : Clause) → clause_in_range c ≡ level_range (out-Clause c)
clause-range c = ap clause_in_range (sym (roll-out-Clause c)) ∙ fold-roll-Clause Bool Bool Bool Bool Bool Bool clause_range_step range_step groups_range_step item_range_step operand_range_step part_range_step (out-Clause c)

pub item-range : (i : Item) → item_in_range i ≡ literals_in_range (out-Item i).expr
item-range i = ap item_in_range (sym (roll-out-Item i)) ∙ fold-roll-Item Bool Bool Bool Bool Bool Bool clause_range_step range_step groups_range_step item_range_step operand_range_step part_range_step (out-Item i)

module _ (frame : Frame) where
  abbrev IsOfItsKind : CheckedItem → Type 0
  IsOfItsKind i = is_of frame i.kind i.value ≡ true

  -- items that are made on the frame, and of their kinds
  record AreChecked (cs : List CheckedItem) : Type 0 where
    pub made : All (IsItemOf frame) cs
    pub typed : All IsOfItsKind cs

  items-checked : (items : List Item) (cs : List CheckedItem) → all_are (map item_in_range items) ≡ true → items_checked frame items ≡ Ok cs → AreChecked cs
  items-checked [] cs r e = subst AreChecked (answered [] cs e) (record { made = All-nil (IsItemOf frame); typed = All-nil IsOfItsKind })
  items-checked (i ∷ items) cs r e =
      let item = out-Item i in
      let first = gave (item_checked frame i) (λ c. items_checked frame items >>= (λ cs. Ok (c ∷ cs))) cs e in
      let others = gave (items_checked frame items) (λ cs. Ok (first.0 ∷ cs)) cs first.2 in
      let value = gave (typed (scope_of_frame frame) Point item.expr) (λ t. Ok (item_typed frame item.role item.name t)) first.0 first.1 in
      let own : item_typed frame item.role item.name value.0 ≡ first.0 = answered (item_typed frame item.role item.name value.0) first.0 value.2 in
      let in_range : literals_in_range item.expr ≡ true = sym (item-range i) ∙ left (item_in_range i) (all_are (map item_in_range items)) r in
      let well = scalar-typed item.expr in_range (scope_of_frame frame) Point value.0 value.1 in
      let more = items-checked items others.0 (right (item_in_range i) (all_are (map item_in_range items)) r) others.1 in
      subst AreChecked (answered (first.0 ∷ others.0) cs others.2) (record {
        made = All-cons (IsItemOf frame) first.0 others.0 (record { stated = item.role; name = item.name; value = value.0; is = sym own }) more.made;
        typed = All-cons IsOfItsKind first.0 others.0 (subst IsOfItsKind own (whole-is (kinds_on frame) Text value.0 well)) more.typed;
      })

  abbrev IsWell : CheckedClause → Type 0
  IsWell c = is_well_typed frame c ≡ true

  level-typed : (x : Clause-F Clause Expr Groups Item JoinOperand SubstrRange) (c : CheckedClause) → level_range x ≡ true → clause_step x frame ≡ Ok c → IsWell c
  level-typed (Clause-F.Filter condition place) c r h =
      let value = gave (typed (scope_of_frame frame) Point condition) (filter_typed place) c h in
      let truth = gave (wanted place Truth value.0) (λ t. Ok (clause.Filter t)) c value.2 in
      let well = scalar-typed condition r (scope_of_frame frame) Point value.0 value.1 in
      subst IsWell (answered (clause.Filter truth.0) c truth.2) (wanted-is (kinds_on frame) place Truth value.0 truth.0 well truth.1)
  level-typed (Clause-F.Calc items place) c r h =
      let all = gave (items_checked frame items) (λ checked. calc_typed place checked frame) c h in
      let once = targets_differ all.0 in
      let room = has_room (calculated all.0 frame) in
      let given = met place ((may_calculate frame all.0, WrongRole) ∷ (once, NameTwice) ∷ (room, TooManyComponents) ∷ []) (clause.Calc all.0) c all.2 in
      let checked = items-checked items all.0 r all.1 in
      subst IsWell given.1 (items_well_typed frame all.0 (left (may_calculate frame all.0) (once && (room && true)) given.0) checked.made checked.typed)
  level-typed (Clause-F.Keep names place) c r h =
      let known = are_known frame names in
      let fit = may_keep frame (numbers_named frame names) in
      let given = met place ((known, UnknownComponent) ∷ (fit, WrongRole) ∷ []) (clause.Keep (numbers_named frame names)) c h in
      subst IsWell given.1 (left fit true (right known (fit && true) given.0))
  level-typed (Clause-F.Drop names place) c r h =
      let known = are_known frame names in
      let fit = may_drop frame (numbers_named frame names) in
      let given = met place ((known, UnknownComponent) ∷ (fit, WrongRole) ∷ []) (clause.Drop (numbers_named frame names)) c h in
      subst IsWell given.1 (left fit true (right known (fit && true) given.0))
  level-typed (Clause-F.Rename renames place) c r h =
      let checked = renames_checked frame renames in
      let given = met place ((are_known_renames frame renames, UnknownComponent) ∷ (renames_differ frame checked, NameTwice) ∷ []) (clause.Rename checked) c h in
      subst IsWell given.1 (renames_there frame renames)
  level-typed (Clause-F.Sub items place) c r h =
      let subs = subs_checked frame items in
      let known = are_known_items frame items in
      let alike = are_comparable frame subs in
      let fit = are_identifiers frame subs in
      let present = are_present subs in
      let given = met place ((known, UnknownComponent) ∷ (alike, WrongType) ∷ (fit, WrongRole) ∷ (present, BadConstant) ∷ []) (clause.Sub subs) c h in
      let compared = right known (alike && (fit && (present && true))) given.0 in
      subst IsWell given.1 (both alike fit (left alike (fit && (present && true)) compared) (left fit (present && true) (right alike (fit && (present && true)) compared)))
  level-typed (Clause-F.Unpivot identifier measure place) c r h =
      let alike = are_alike frame.components in
      let some = has_measure frame.components in
      let once = names_differ (unpivoted identifier measure frame) in
      let room = has_room (unpivoted identifier measure frame) in
      let given = met place ((alike, WrongType) ∷ (some, WrongStructure) ∷ (once, NameTwice) ∷ (room, TooManyComponents) ∷ []) (clause.Unpivot identifier measure) c h in
      subst IsWell given.1 (left alike (some && (once && (room && true))) given.0)
  level-typed (Clause-F.Aggr items groups place) c r h = cc

  pub clause-typed : (written : Clause) (c : CheckedClause) → clause_in_range written ≡ true → clause_checked written frame ≡ Ok c → is_well_typed frame c ≡ true
  clause-typed written c r h = level-typed (out-Clause written) c (sym (clause-range written) ∙ r) h
