-- The stretches of a walk that looks go over.
use Rattle.std.proofs.Common.{◌≡◌, ℕ, List, filter, ap, ◌∙◌, length, ◌-◌, ◌≤◌, sym}
use Rattle.std.specs.List.{prefix_len}
use Rattle.std.specs.Ordering.{is_lt, is_le, is_eq, eq_by_cmp}
use Rattle.vtl_values.specs.declared.value.Value.{Value}
use Rattle.vtl_values.specs.Order.{key_cmp}
use Rattle.ordered_tree.specs.Lists.{stretch}
use Rattle.ordered_tree.proofs.Stretches.{length-stretch}
use Rattle.held_index.specs.declared.want.Want.{Want}
use Rattle.held_index.specs.Walks.{PointValues, part_key, place_cmp, walk_cmp}
use Rattle.held_index.specs.WalkedPoints.{IsWalk}
use Rattle.held_index.specs.Holdings.{part_of, after, before}
use Rattle.held_index.proofs.PartLemmas.{span_after, span_before, span_at}
use Rattle.held_index.proofs.HoldingLemmas.{set_of, part_is}

module _ (w : Want) (ps : List PointValues) (is : IsWalk w ps) where
  places : (i j from to : ℕ) → from ≡ i → to ≡ j → stretch from to ps ≡ stretch i j ps
  places i j from to e f = λ n. stretch (e n) (f n) ps

  pub between_at : (at : PointValues) (from to : ℕ) → from ≡ prefix_len (λ p. is_lt (walk_cmp w p at)) ps → to ≡ prefix_len (λ p. is_le (walk_cmp w p at)) ps → stretch from to ps ≡ filter (λ p. is_eq (walk_cmp w p at)) ps
  between_at at from to e f = places _ _ from to e f ∙ span_at w ps is at

  pub between_after : (at : PointValues) (from to : ℕ) → from ≡ prefix_len (λ p. is_le (walk_cmp w p at)) ps → to ≡ prefix_len (λ p. is_le (key_cmp (part_key w.part p) (part_key w.part at))) ps → stretch from to ps ≡ after w at (set_of ps)
  between_after at from to e f = places _ _ from to e f ∙ span_after w ps is at ∙ ap (filter (λ p. is_lt (place_cmp w at p))) (part_is w (part_key w.part at) ps is)

  pub between_before : (at : PointValues) (from to : ℕ) → from ≡ prefix_len (λ p. is_lt (key_cmp (part_key w.part p) (part_key w.part at))) ps → to ≡ prefix_len (λ p. is_lt (walk_cmp w p at)) ps → stretch from to ps ≡ before w at (set_of ps)
  between_before at from to e f = places _ _ from to e f ∙ span_before w ps is at ∙ ap (filter (λ p. is_lt (place_cmp w p at))) (part_is w (part_key w.part at) ps is)

  -- the span of a part
  pub part_between : (part : List Value) (from to : ℕ) → stretch from to ps ≡ filter (λ p. eq_by_cmp key_cmp (part_key w.part p) part) ps → stretch from to ps ≡ part_of w part (set_of ps)
  part_between part from to e = e ∙ part_is w part ps is

  pub part_count : (part : List Value) (from to : ℕ) → stretch from to ps ≡ filter (λ p. eq_by_cmp key_cmp (part_key w.part p) part) ps → to ≤ length ps → to - from ≡ length (part_of w part (set_of ps))
  part_count part from to e h = sym (length-stretch from to ps h) ∙ ap length (part_between part from to e)
