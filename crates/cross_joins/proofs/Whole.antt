-- Operands that are held whole.
use Rattle.std.proofs.Common.{◌≡◌, ℕ, ◌+◌, ◌*◌, ◌≤◌, List, [], ◌∷◌, ◌++◌, map, filter, length, min, Bool, true, false, ◌&&◌, cond, T, refl, sym, ap, subst, ◌∙◌, arith}
use Rattle.std.specs.List.{All, AllByRecursion, sum_by}
use Rattle.std.specs.Cmp.{IsTotalOrder}
use Rattle.std.specs.Ordering.{eq_by_cmp, is_eq, is_lt, ordering_reverse}
use Rattle.std.specs.FinMap.{entries, entries_sorted, is_sorted, len, len-entries}
use Rattle.std.specs.FinMap.Entries.{below_all}
use Rattle.std.specs.declared.cmp.Ordering.{Ordering}
use Rattle.std.specs.declared.cmp.Ordering.TheVariants.{Less, Equal, Greater}
use Rattle.std.proofs.Math.ListN.{get_or-map}
use Rattle.std.proofs.lemmas.List.{length-map}
use Rattle.std.proofs.lemmas.List.Elements.{All-head, All-tail}
use Rattle.std.proofs.lemmas.List.Sums.{sum_by-cons}
use Rattle.vtl_values.specs.Order.{key_cmp}
use Rattle.vtl_values.proofs.Values.{key_cmp-IsTotalOrder, key_cmp-IsAntisymmetric}
use Rattle.data_model.specs.Deltas.{BeginsAt, apply}
use Rattle.data_model.specs.declared.TheConstants.{POINT_LIMIT}
use Rattle.data_model.proofs.DeltaLemmas.{len-apply-count}
use Rattle.data_model.proofs.MapLemmas.{tied_to_itself}
use Rattle.ordered_tree.specs.Orders.{Ascends, in_order, put_in}
use Rattle.point_sets.specs.Changes.{Changes}
use Rattle.point_sets.specs.DataSets.{DataSet}
use Rattle.held_index.specs.Holdings.{AllPlain, Holding, IsPlain, contents, part_of}
use Rattle.held_index.specs.WalkLaws.{place_cmp-IsTotalOrder}
use Rattle.held_index.specs.Walks.{PointValues, part_key, place_cmp}
use Rattle.held_index.specs.Wants.{all_whole}
use Rattle.held_index.specs.declared.want.OrderItem.{OrderItem}
use Rattle.held_index.specs.declared.want.Want.{Want}
use Rattle.held_index.proofs.WantLemmas.{all_whole-each, whole-plain}
use Rattle.cross_joins.specs.Counts.{count_after_news}
use Rattle.cross_joins.specs.Reach.{points_in, walk_steps}
use Rattle.cross_joins.specs.Rows.{all_rows, changed_row, kept_rows}
use Rattle.cross_joins.proofs.CombinationLemmas.{rows_all}

-- ---- lists in order

module _ {X : Type 0} {cmp : X → X → Ordering} (o : IsTotalOrder cmp) where
  first-put : (x : X) (xs : List X) → AllByRecursion (λ y. cmp x y ≡ Less) xs → put_in cmp x xs ≡ x ∷ xs
  first-put x [] h = refl
  first-put x (y ∷ ys) h = let above : cmp y x ≡ Greater = o.antisymm y x ∙ ap ordering_reverse h.0 in ap (λ r. cond (is_lt r) (y ∷ put_in cmp x ys) (x ∷ cond (is_eq r) ys (y ∷ ys))) above

  -- a list in order stays as it is
  in_order-same : (xs : List X) → Ascends cmp xs → in_order cmp xs ≡ xs
  in_order-same [] h = refl
  in_order-same (x ∷ xs) h = ap (put_in cmp x) (in_order-same xs h.1) ∙ first-put x xs h.0

both-true : (a b : Bool) → T (a && b) → T a × T b
both-true true b h = (tt, h)
both-true false b h = absurd h

less : (r : Ordering) → T (is_lt r) → r ≡ Less
less Less h = refl
less Equal h = absurd h
less Greater h = absurd h

all-pass : {A : Type 0} (p : A → Bool) → ((x : A) → p x ≡ true) → (xs : List A) → filter p xs ≡ xs
all-pass p each [] = refl
all-pass p each (x ∷ xs) = ap (λ b. cond b (x ∷ filter p xs) (filter p xs)) (each x) ∙ ap (λ ys. x ∷ ys) (all-pass p each xs)

-- ---- one operand

module _ (w : Want) (plain : IsPlain w) where
  by-key : (p q : PointValues) → place_cmp w p q ≡ key_cmp p.0 q.0
  by-key p q = ap (λ (os : List OrderItem). place_cmp (record w { order = os }) p q) plain.by_key

  below-each : (p : PointValues) (ps : List PointValues) → T (below_all key_cmp p.0 ps) → AllByRecursion (λ q. place_cmp w p q ≡ Less) ps
  below-each p [] h = tt
  below-each p (q ∷ qs) h = let parts = both-true (is_lt (key_cmp p.0 q.0)) (below_all key_cmp p.0 qs) h in (by-key p q ∙ less (key_cmp p.0 q.0) parts.0, below-each p qs parts.1)

  sorted-ascends : (ps : List PointValues) → T (is_sorted key_cmp ps) → Ascends (place_cmp w) ps
  sorted-ascends [] h = tt
  sorted-ascends (p ∷ ps) h = let parts = both-true (below_all key_cmp p.0 ps) (is_sorted key_cmp ps) h in (below-each p ps parts.0, sorted-ascends ps parts.1)

  -- its one part has all points by their keys
  pub part-whole : (m : DataSet) → part_of w [] m ≡ entries m
  part-whole m =
      let one : (p : PointValues) → eq_by_cmp key_cmp (part_key w.part p) [] ≡ true = λ p. ap (λ (cs : List ℕ). eq_by_cmp key_cmp (part_key cs p) []) plain.one_part ∙ tied_to_itself key_cmp-IsTotalOrder [] in
      ap (in_order (place_cmp w)) (all-pass (λ p. eq_by_cmp key_cmp (part_key w.part p) []) one (entries m))
      ∙ in_order-same (place_cmp-IsTotalOrder w) (entries m) (sorted-ascends (entries m) (entries_sorted m))

  -- so many points
  pub part-counted : (m : DataSet) → length (part_of w [] m) ≡ len m
  part-counted m = ap length (part-whole m) ∙ sym (len-entries m)

-- after its news
pub count-whole : (h : Holding) (d : Changes) → IsPlain h.want → len h.content ≤ POINT_LIMIT → BeginsAt d h.content → count_after_news h d ≡ len (apply d h.content)
count-whole h d plain few begins =
    let counted = part-counted h.want plain h.content in
    let least : len h.content ≡ min (length (part_of h.want [] h.content)) POINT_LIMIT = omega (arith, counted, few) in
    sym (len-apply-count key_cmp-IsTotalOrder key_cmp-IsAntisymmetric d h.content (min (length (part_of h.want [] h.content)) POINT_LIMIT) begins least)

-- ---- all operands

pub rows-whole : (held : List Holding) (news : List Changes) → AllPlain held → all_rows held news ≡ rows_all (contents held) news
rows-whole [] news plain = refl
rows-whole (h ∷ held) [] plain = refl
rows-whole (h ∷ held) (d ∷ news) plain =
    let own = part-whole h.want (All-head (λ (k : Holding). IsPlain k.want) h held plain) h.content in
    λ i. (kept_rows d (own i) ++ map changed_row (entries d)) ∷ rows-whole held news (All-tail (λ (k : Holding). IsPlain k.want) h held plain) i

pub walked-whole : (held : List Holding) → AllPlain held → sum_by walk_steps held ≡ length held + 2 * points_in held
walked-whole [] plain = refl
walked-whole (h ∷ held) plain =
    let own = part-counted h.want (All-head (λ (k : Holding). IsPlain k.want) h held plain) h.content in
    let later = walked-whole held (All-tail (λ (k : Holding). IsPlain k.want) h held plain) in
    let steps = sum_by-cons walk_steps h held in
    let points = sum_by-cons (λ (k : Holding). len k.content) h held in
    omega (arith, own, later, steps, points)

-- what is wanted whole is held so
pub held-plain : (held : List Holding) (count : ℕ) → map (λ (h : Holding). h.want) held ≡ all_whole count → AllPlain held
held-plain held count wants = λ i h within.
    let long = length-map held (λ (k : Holding). k.want) in
    let all : All IsPlain (map (λ (k : Holding). k.want) held) = subst (All IsPlain) (sym wants) (all_whole-each IsPlain count (λ n below. whole-plain n)) in
    subst IsPlain (get_or-map (λ (k : Holding). k.want) held i h) (all i h.want (omega (arith, within, long)))
