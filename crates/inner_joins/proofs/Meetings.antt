-- What is known where a change comes to a key of the join.
use Rattle.std.proofs.Common.{◌≡◌, ◌≢◌, ℕ, zero, suc, ◌<◌, List, [], ◌∷◌, length, Option, Some, None, sym, ap, subst, ◌∙◌}
use Rattle.std.specs.Prelude.{slice_get}
use Rattle.std.specs.List.{AllByRecursion}
use Rattle.std.specs.Option.{IfSome, IsSomeAnd}
use Rattle.std.specs.FinMap.{get}
use Rattle.vtl_values.specs.declared.value.Value.{Value}
use Rattle.data_model.specs.Deltas.{Pair, after}
use Rattle.point_sets.specs.Changes.{Changes, change_entry, values_of, IsChange}
use Rattle.point_sets.specs.DataSets.{DataSet}
use Rattle.point_sets.specs.declared.delta.Change.{Change}
use Rattle.data_set_trees.specs.Components.{identifiers}
use Rattle.held_index.specs.Holdings.{Holding, operand, part_of}
use Rattle.held_index.specs.Rules.{after_news}
use Rattle.held_index.specs.Walks.{PointValues}
use Rattle.operator_meaning.specs.joins.Joins.{JoinOn}
use Rattle.join_eval.specs.Plans.{own_key, structure_of}
use Rattle.pair_ops.proofs.Parts.{IsInPart, all_in_part}
use Rattle.inner_joins.specs.Noted.{held_for, news_of, points_met, AreBehind, Has, IsMet, IsOfChange}
use Rattle.inner_joins.specs.Rules.{key_from, main_number, partner_numbers, parts_for, place_of, IsInnerOn}
use Rattle.inner_joins.specs.declared.notes.Meeting.{Meeting}
use Rattle.inner_joins.specs.declared.notes.Partner.{Partner}
use Rattle.inner_joins.proofs.Keys.{main-within, from-long, main-back, other-back}
use Rattle.inner_joins.proofs.Behind.{get-after, was-at, is-at, changed-long, point-long}
use Rattle.inner_joins.proofs.Places.{parts-content, place-below}

-- what holds of all holds of the one at a place
at-place : {X : Type 0} (P : X → Type 0) (xs : List X) (n : ℕ) (x : X) → AllByRecursion P xs → Some x ≡ slice_get xs n → P x
at-place P [] n x all at = let never : ⊥ = cc in absurd never
at-place P (y ∷ ys) zero x all at = let same : y ≡ x = cc in subst P same all.0
at-place P (y ∷ ys) (suc n) x all at = at-place P ys n x all.1 at

module _ (j : JoinOn) (on : IsInnerOn j) (held : List Holding) (news : List Changes) (xs : List DataSet) (behind : AreBehind j held news xs) where
  abbrev main : ℕ
  main = main_number j

  -- at the key that one of the main operand comes to
  met : (m : Meeting) (own : List Value) → length own ≡ length (identifiers (structure_of j main)) → m.key ≡ key_from j own
      → values_of m.main.before ≡ get (operand main xs) own → values_of m.main.after ≡ get (operand main (after_news news xs)) own
      → IfSome m.partner (λ p. Has j xs news m.key p.number p.seen) → IsMet j xs news m
  met m own long key was is partner =
      let back : own_key j main m.key ≡ own = ap (own_key j main) key ∙ main-back j on own long in
      record {
        long = ap (λ (k : List Value). length k) key ∙ from-long j on own long;
        main = record { before = was ∙ ap (get (operand main xs)) (sym back); after = is ∙ ap (get (operand main (after_news news xs))) (sym back) };
        partner = partner;
      }

  -- a change of the main operand
  pub met-main : (m : Meeting) (change : Change) → IsChange change → get (news_of main news) change.key ≡ Some (change_entry change).1 → m.key ≡ key_from j change.key
      → values_of m.main.before ≡ values_of change.old → values_of m.main.after ≡ values_of change.new → m.partner ≡ None → IsMet j xs news m
  met-main m change is_change there key was is alone =
      let x : Pair (List Value) = (change_entry change).1 in
      let within = main-within j on in
      met m change.key (changed-long j held news xs behind main within change.key x there is_change.differs) key
      (was ∙ sym (was-at j held news xs behind main within change.key x there))
      (is ∙ sym (is-at j held news xs behind main within change.key x there))
      (subst (λ (o : Option Partner). IfSome o (λ p. Has j xs news m.key p.number p.seen)) (sym alone) tt)

  module _ (number : ℕ) (within : number < length j.operands) (change : Change) (there : get (news_of number news) change.key ≡ Some (change_entry change).1) where
    abbrev its : Pair (List Value)
    its = (change_entry change).1

    has-its : (key : List Value) (p : Partner) → own_key j number key ≡ change.key → IsOfChange number its p → Has j xs news key p.number p.seen
    has-its key p back is =
        let here : Has j xs news key number p.seen = record {
          before = is.before ∙ sym (was-at j held news xs behind number within change.key its there) ∙ ap (get (operand number xs)) (sym back);
          after = is.after ∙ sym (is-at j held news xs behind number within change.key its there) ∙ ap (get (operand number (after_news news xs))) (sym back);
        } in
        subst (λ n. Has j xs news key n p.seen) (sym is.its) here

    some-its : (key : List Value) (o : Option Partner) → own_key j number key ≡ change.key → IsSomeAnd o (IsOfChange number its) → IfSome o (λ p. Has j xs news key p.number p.seen)
    some-its key None back is = tt
    some-its key (Some p) back is = has-its key p back is

    -- a point of the main operand that a change of another one meets
    pub met-point : (m : Meeting) (point : PointValues) → IsInPart (partner_numbers j number) change.key (operand main xs) point → m.key ≡ key_from j point.0
        → values_of m.main.before ≡ Some point.1 → values_of m.main.after ≡ after (get (news_of main news) point.0) (Some point.1) → IsSomeAnd m.partner (IsOfChange number its) → IsMet j xs news m
    met-point m point in_part key was is partner =
        let inside = main-within j on in
        let long = point-long j held news xs behind main inside point.0 point.1 in_part.there in
        let back : own_key j number m.key ≡ change.key = ap (own_key j number) key ∙ other-back j on point.0 long number within point.1 ∙ in_part.in_it in
        met m point.0 long key (was ∙ sym in_part.there)
        (is ∙ ap (after (get (news_of main news) point.0)) (sym in_part.there) ∙ sym (get-after j held news xs behind main inside point.0))
        (some-its m.key m.partner back partner)

    -- the points in the part of the change's key
    pub part-there : number ≢ main → (n : ℕ) (point : PointValues) → Some point ≡ slice_get (points_met j held number change.key) n → IsInPart (partner_numbers j number) change.key (operand main xs) point
    part-there other n point at =
        let content : (held_for j held number).content ≡ operand main xs = parts-content j held xs behind.held_is (place_of main number) (place-below main number (length j.operands) (main-within j on) within other) in
        at-place (IsInPart (partner_numbers j number) change.key (operand main xs)) (part_of (parts_for j number) change.key (operand main xs)) n point
        (all_in_part (parts_for j number) change.key (operand main xs))
        (at ∙ ap (λ (m : DataSet). slice_get (part_of (parts_for j number) change.key m) n) content)
