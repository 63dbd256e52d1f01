-- What the parts of a walk are.
use Rattle.std.proofs.Common.{◌≡◌, ◌≤◌, List, filter, true, false, not, ◌&&◌, refl, sym, ap, ◌∙◌}
use Rattle.std.specs.List.{prefix_len}
use Rattle.std.specs.Ordering.{is_lt, is_le, is_eq, is_gt, eq_by_cmp, ordering_then, ordering_reverse}
use Rattle.std.specs.Cmp.{IsTotalOrder}
use Rattle.std.specs.declared.cmp.Ordering.{Ordering}
use Rattle.std.specs.declared.cmp.Ordering.TheVariants.{Less, Equal, Greater}
use Rattle.std.proofs.lemmas.Cmp.{alike_right}
use Rattle.vtl_values.specs.declared.value.Value.{Value}
use Rattle.vtl_values.specs.Order.{key_cmp}
use Rattle.vtl_values.proofs.Values.{key_cmp-IsTotalOrder}
use Rattle.ordered_tree.specs.Lists.{Parted, stretch}
use Rattle.ordered_tree.proofs.Orders.{less_from_is_lt}
use Rattle.held_index.specs.declared.want.Want.{Want}
use Rattle.held_index.specs.Walks.{PointValues, part_key, place_cmp, walk_cmp}
use Rattle.held_index.specs.WalkLaws.{walk_cmp-IsTotalOrder, place_cmp-IsTotalOrder}
use Rattle.held_index.specs.WalkedPoints.{IsWalk}
use Rattle.held_index.proofs.WalkLemmas.{stretch_between, filter-same, filter-filter, parted_closed, prefix_len-further}

-- ---- tests against a place pass up to it

module _ {K : Type 0} {R : K → K → Ordering} (o : IsTotalOrder R) where
  lt_closed : (x y z : K) → is_gt (R x y) ≡ false → is_lt (R y z) ≡ true → is_lt (R x z) ≡ true
  lt_closed x y z h k = elim (R x y) as (λ r. R x y ≡ r → is_gt r ≡ false → is_lt (R x z) ≡ true) [
    | Less ↦ λ e g. ap is_lt (o.trans x y z e (less_from_is_lt (R y z) k))
    | Equal ↦ λ e g. ap is_lt (o.congr x y z e) ∙ k
    | Greater ↦ λ e g. cc g
  ] refl h

  le_closed : (x y z : K) → is_gt (R x y) ≡ false → is_le (R y z) ≡ true → is_le (R x z) ≡ true
  le_closed x y z h k = elim (R x y) as (λ r. R x y ≡ r → is_gt r ≡ false → is_le (R x z) ≡ true) [
    | Less ↦ λ e g. elim (R y z) as (λ s. R y z ≡ s → is_le s ≡ true → is_le (R x z) ≡ true) [
      | Less ↦ λ f l. ap is_le (o.trans x y z e f)
      | Equal ↦ λ f l. ap is_le (sym (alike_right o y z x f) ∙ e)
      | Greater ↦ λ f l. cc l
    ] refl k
    | Equal ↦ λ e g. ap is_le (o.congr x y z e) ∙ k
    | Greater ↦ λ e g. cc g
  ] refl h

not_greater : (r : Ordering) → r ≡ Less → is_gt r ≡ false
not_greater r e = ap is_gt e

first_not_greater : (r s : Ordering) → ordering_then r s ≡ Less → is_gt r ≡ false
first_not_greater Less s e = refl
first_not_greater Equal s e = refl
first_not_greater Greater s e = cc e

module _ (w : Want) where
  walk_total : IsTotalOrder (walk_cmp w)
  walk_total = walk_cmp-IsTotalOrder w

  part_not_greater : (x y : PointValues) → walk_cmp w x y ≡ Less → is_gt (key_cmp (part_key w.part x) (part_key w.part y)) ≡ false
  part_not_greater x y e = first_not_greater (key_cmp (part_key w.part x) (part_key w.part y)) (place_cmp w x y) e

  module _ (ps : List PointValues) (is : IsWalk w ps) where
    -- a part, and what is before it
    pub parted_part : (part : List Value) → Parted (λ p. is_lt (key_cmp (part_key w.part p) part)) ps
    parted_part part = parted_closed {R = walk_cmp w} (λ p. is_lt (key_cmp (part_key w.part p) part)) (λ x y e. lt_closed key_cmp-IsTotalOrder (part_key w.part x) (part_key w.part y) part (part_not_greater x y e)) ps is.ascends

    pub parted_in_part : (part : List Value) → Parted (λ p. is_le (key_cmp (part_key w.part p) part)) ps
    parted_in_part part = parted_closed {R = walk_cmp w} (λ p. is_le (key_cmp (part_key w.part p) part)) (λ x y e. le_closed key_cmp-IsTotalOrder (part_key w.part x) (part_key w.part y) part (part_not_greater x y e)) ps is.ascends

    -- a point, and what is before it
    pub parted_point : (at : PointValues) → Parted (λ p. is_lt (walk_cmp w p at)) ps
    parted_point at = parted_closed {R = walk_cmp w} (λ p. is_lt (walk_cmp w p at)) (λ x y e. lt_closed walk_total x y at (not_greater (walk_cmp w x y) e)) ps is.ascends

    pub parted_up_to_point : (at : PointValues) → Parted (λ p. is_le (walk_cmp w p at)) ps
    parted_up_to_point at = parted_closed {R = walk_cmp w} (λ p. is_le (walk_cmp w p at)) (λ x y e. le_closed walk_total x y at (not_greater (walk_cmp w x y) e)) ps is.ascends

-- ---- what is between two places

within : (r : Ordering) → (is_le r && not (is_lt r)) ≡ is_eq r
within Less = refl
within Equal = refl
within Greater = refl

later : (r s : Ordering) → (is_le r && not (is_le (ordering_then r s))) ≡ (is_eq r && is_lt (ordering_reverse s))
later Less s = refl
later Equal Less = refl
later Equal Equal = refl
later Equal Greater = refl
later Greater s = refl

earlier : (r s : Ordering) → (is_lt (ordering_then r s) && not (is_lt r)) ≡ (is_eq r && is_lt s)
earlier Less s = refl
earlier Equal Less = refl
earlier Equal Equal = refl
earlier Equal Greater = refl
earlier Greater s = refl

module _ (w : Want) (ps : List PointValues) (is : IsWalk w ps) where
  -- the points of a part
  pub span_of_part : (part : List Value)
      → stretch (prefix_len (λ p. is_lt (key_cmp (part_key w.part p) part)) ps) (prefix_len (λ p. is_le (key_cmp (part_key w.part p) part)) ps) ps
      ≡ filter (λ p. eq_by_cmp key_cmp (part_key w.part p) part) ps
  span_of_part part =
      stretch_between (λ p. is_lt (key_cmp (part_key w.part p) part)) (λ p. is_le (key_cmp (part_key w.part p) part)) ps (parted_part w ps is part) (parted_in_part w ps is part)
      ∙ filter-same _ _ (λ p. within (key_cmp (part_key w.part p) part)) ps

  -- those of a point's part that are after it, and before it
  pub span_after : (at : PointValues)
      → stretch (prefix_len (λ p. is_le (walk_cmp w p at)) ps) (prefix_len (λ p. is_le (key_cmp (part_key w.part p) (part_key w.part at))) ps) ps
      ≡ filter (λ p. is_lt (place_cmp w at p)) (filter (λ p. eq_by_cmp key_cmp (part_key w.part p) (part_key w.part at)) ps)
  span_after at =
      stretch_between (λ p. is_le (walk_cmp w p at)) (λ p. is_le (key_cmp (part_key w.part p) (part_key w.part at))) ps (parted_up_to_point w ps is at) (parted_in_part w ps is (part_key w.part at))
      ∙ filter-same _ _ (λ p. later (key_cmp (part_key w.part p) (part_key w.part at)) (place_cmp w p at) ∙ ap (λ (s : Ordering). eq_by_cmp key_cmp (part_key w.part p) (part_key w.part at) && is_lt s) (sym ((place_cmp-IsTotalOrder w).antisymm at p))) ps
      ∙ sym (filter-filter (λ p. is_lt (place_cmp w at p)) (λ p. eq_by_cmp key_cmp (part_key w.part p) (part_key w.part at)) ps)

  pub span_before : (at : PointValues)
      → stretch (prefix_len (λ p. is_lt (key_cmp (part_key w.part p) (part_key w.part at))) ps) (prefix_len (λ p. is_lt (walk_cmp w p at)) ps) ps
      ≡ filter (λ p. is_lt (place_cmp w p at)) (filter (λ p. eq_by_cmp key_cmp (part_key w.part p) (part_key w.part at)) ps)
  span_before at =
      stretch_between (λ p. is_lt (key_cmp (part_key w.part p) (part_key w.part at))) (λ p. is_lt (walk_cmp w p at)) ps (parted_part w ps is (part_key w.part at)) (parted_point w ps is at)
      ∙ filter-same _ _ (λ p. earlier (key_cmp (part_key w.part p) (part_key w.part at)) (place_cmp w p at)) ps
      ∙ sym (filter-filter (λ p. is_lt (place_cmp w p at)) (λ p. eq_by_cmp key_cmp (part_key w.part p) (part_key w.part at)) ps)

  -- those that stand where a point does
  pub span_at : (at : PointValues)
      → stretch (prefix_len (λ p. is_lt (walk_cmp w p at)) ps) (prefix_len (λ p. is_le (walk_cmp w p at)) ps) ps
      ≡ filter (λ p. is_eq (walk_cmp w p at)) ps
  span_at at =
      stretch_between (λ p. is_lt (walk_cmp w p at)) (λ p. is_le (walk_cmp w p at)) ps (parted_point w ps is at) (parted_up_to_point w ps is at)
      ∙ filter-same _ _ (λ p. within (walk_cmp w p at)) ps

le_from_lt : (r : Ordering) → is_lt r ≡ true → is_le r ≡ true
le_from_lt Less e = refl
le_from_lt Equal e = cc e
le_from_lt Greater e = cc e

pub part_ordered : (w : Want) (ps : List PointValues) (part : List Value) → prefix_len (λ p. is_lt (key_cmp (part_key w.part p) part)) ps ≤ prefix_len (λ p. is_le (key_cmp (part_key w.part p) part)) ps
part_ordered w ps part = prefix_len-further _ _ (λ p. le_from_lt (key_cmp (part_key w.part p) part)) ps
