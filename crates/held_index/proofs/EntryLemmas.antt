-- The entries of a walk, and its points.
use Rattle.std.proofs.Common.{◌≡◌, ℕ, zero, suc, ◌+◌, ◌<◌, List, [], ◌∷◌, take, drop, length, Bool, true, false, cond, Option, Some, None, refl, ap, ◌∙◌, arith}
use Rattle.std.specs.Option.{option_map}
use Rattle.std.specs.List.{AllByRecursion, slice_index, prefix_len}
use Rattle.std.specs.Ordering.{is_lt, is_eq}
use Rattle.std.specs.FinMap.{find}
use Rattle.std.specs.declared.cmp.Ordering.{Ordering}
use Rattle.std.specs.declared.cmp.Ordering.TheVariants.{Less, Equal, Greater}
use Rattle.std.specs.declared.sync.Arc.{Arc}
use Rattle.std.specs.declared.alloc.Global.{Global}
use Rattle.vtl_values.specs.Order.{key_cmp}
use Rattle.ordered_tree.specs.Lists.{NonePass, Parted, stretch}
use Rattle.ordered_tree.specs.Measures.{total}
use Rattle.ordered_tree.specs.Orders.{Ascends, put_in, take_out, changed}
use Rattle.ordered_tree.proofs.Orders.{all_put_in, all_take_out}
use Rattle.point_sets.specs.declared.point.Point.{Point}
use Rattle.point_sets.specs.declared.delta.Change.{Change}
use Rattle.point_sets.specs.DataSets.{entry_of, HasKey}
use Rattle.point_sets.specs.Changes.{values_of}
use Rattle.held_index.specs.declared.want.Want.{Want}
use Rattle.held_index.specs.declared.place.Place.{Place}
use Rattle.held_index.specs.declared.place.Place.TheVariants.{Part, PartOf, At}
use Rattle.held_index.specs.Places.{is_up_to}
use Rattle.held_index.specs.Sums.{sum_of_value, add_sums, sum_over, own_sums, join_sums, sum_at}
use Rattle.held_index.specs.SumLaws.{sum_at-join_sums}
use Rattle.held_index.specs.Walks.{PointValues, WalkEntry, component_of, walk_cmp, entry_cmp, point_values}
use Rattle.held_index.specs.WalkedPoints.{IsWalk, IsWalkOfEntries, HaveOwn, points_of, without_old, with_new}
use Rattle.held_index.proofs.PartLemmas.{parted_part, parted_in_part, parted_point, parted_up_to_point}
use Rattle.held_index.proofs.PlanLemmas.{changed_is_walk}

-- ---- places

parted_up_to : (w : Want) (ps : List PointValues) → IsWalk w ps → (place : Place) (inside : Bool) → Parted (is_up_to w place inside) ps
parted_up_to w ps is (Part part) true = parted_in_part w ps is part.now
parted_up_to w ps is (Part part) false = parted_part w ps is part.now
parted_up_to w ps is (PartOf at) true = parted_in_part w ps is _
parted_up_to w ps is (PartOf at) false = parted_part w ps is _
parted_up_to w ps is (At at) true = parted_up_to_point w ps is (point_values at.now)
parted_up_to w ps is (At at) false = parted_point w ps is (point_values at.now)

module _ (p : PointValues → Bool) where
  none-points_of : (es : List WalkEntry) → NonePass p (points_of es) → NonePass (λ (e : WalkEntry). p e.0) es
  none-points_of [] h = tt
  none-points_of (e ∷ es) h = (h.0, none-points_of es h.1)

  parted-points_of : (es : List WalkEntry) → Parted p (points_of es) → Parted (λ (e : WalkEntry). p e.0) es
  parted-points_of [] h = tt
  parted-points_of (e ∷ es) h = ((λ t. parted-points_of es (h.0 t)), (λ f. none-points_of es (h.1 f)))

  pub prefix_len-points_of : (es : List WalkEntry) → prefix_len (λ (e : WalkEntry). p e.0) es ≡ prefix_len p (points_of es)
  prefix_len-points_of [] = refl
  prefix_len-points_of (e ∷ es) = ap (λ (n : ℕ). cond (p e.0) (1 + n) 0) (prefix_len-points_of es)

pub parted_entries : (w : Want) (es : List WalkEntry) → IsWalkOfEntries w es → (place : Place) (inside : Bool) → Parted (λ (e : WalkEntry). is_up_to w place inside e.0) es
parted_entries w es is place inside = parted-points_of (is_up_to w place inside) es (parted_up_to w (points_of es) is.walk place inside)

-- ---- order

module _ (w : Want) where
  all_less : (e : WalkEntry) (es : List WalkEntry) → AllByRecursion (λ (p : PointValues). walk_cmp w e.0 p ≡ Less) (points_of es) → AllByRecursion (λ (f : WalkEntry). entry_cmp w e f ≡ Less) es
  all_less e [] h = tt
  all_less e (f ∷ fs) h = (h.0, all_less e fs h.1)

  pub ascends_entries : (es : List WalkEntry) → Ascends (walk_cmp w) (points_of es) → Ascends (entry_cmp w) es
  ascends_entries [] h = tt
  ascends_entries (e ∷ es) h = (all_less e es h.0, ascends_entries es h.1)

  points-take_out : (q : WalkEntry) (es : List WalkEntry) → points_of (take_out (entry_cmp w) q es) ≡ take_out (walk_cmp w) q.0 (points_of es)
  points-take_out q [] = refl
  points-take_out q (e ∷ es) = elim (walk_cmp w e.0 q.0) as (λ (r : Ordering). points_of (cond (is_lt r) (e ∷ take_out (entry_cmp w) q es) (cond (is_eq r) es (e ∷ es))) ≡ cond (is_lt r) (e.0 ∷ take_out (walk_cmp w) q.0 (points_of es)) (cond (is_eq r) (points_of es) (e.0 ∷ points_of es))) [
    | Less ↦ ap (λ (t : List PointValues). e.0 ∷ t) (points-take_out q es)
    | Equal ↦ refl
    | Greater ↦ refl
  ]

  points-put_in : (q : WalkEntry) (es : List WalkEntry) → points_of (put_in (entry_cmp w) q es) ≡ put_in (walk_cmp w) q.0 (points_of es)
  points-put_in q [] = refl
  points-put_in q (e ∷ es) = elim (walk_cmp w e.0 q.0) as (λ (r : Ordering). points_of (cond (is_lt r) (e ∷ put_in (entry_cmp w) q es) (q ∷ cond (is_eq r) es (e ∷ es))) ≡ cond (is_lt r) (e.0 ∷ put_in (walk_cmp w) q.0 (points_of es)) (q.0 ∷ cond (is_eq r) (points_of es) (e.0 ∷ points_of es))) [
    | Less ↦ ap (λ (t : List PointValues). e.0 ∷ t) (points-put_in q es)
    | Equal ↦ refl
    | Greater ↦ refl
  ]

  -- the points after a change of the entries
  pub points-changed : (old new : Option (Arc Point Global)) (es : List WalkEntry) → points_of (with_new w new (without_old w old es)) ≡ changed (walk_cmp w) (option_map entry_of old) (option_map entry_of new) (points_of es)
  points-changed None None es = refl
  points-changed (Some p) None es = points-take_out (entry_of p, []) es
  points-changed None (Some q) es = points-put_in (entry_of q, own_sums w.sums (entry_of q)) es
  points-changed (Some p) (Some q) es =
      points-put_in (entry_of q, own_sums w.sums (entry_of q)) (take_out (entry_cmp w) (entry_of p, []) es)
      ∙ ap (put_in (walk_cmp w) (entry_of q)) (points-take_out (entry_of p, []) es)

  own_without : (old : Option (Arc Point Global)) (es : List WalkEntry) → HaveOwn w.sums es → HaveOwn w.sums (without_old w old es)
  own_without None es h = h
  own_without (Some p) es h = all_take_out (entry_cmp w) (entry_of p, []) (λ (e : WalkEntry). e.1 ≡ own_sums w.sums e.0) es h

  own_with : (new : Option (Arc Point Global)) (es : List WalkEntry) → HaveOwn w.sums es → HaveOwn w.sums (with_new w new es)
  own_with None es h = h
  own_with (Some p) es h = all_put_in (entry_cmp w) (entry_of p, own_sums w.sums (entry_of p)) (λ (e : WalkEntry). e.1 ≡ own_sums w.sums e.0) es refl h

  pub changed_entries : (es : List WalkEntry) (c : Change) → IsWalkOfEntries w es → HasKey c.key c.old → HasKey c.key c.new → find key_cmp c.key (points_of es) ≡ values_of c.old → IsWalkOfEntries w (with_new w c.new (without_old w c.old es))
  changed_entries es c is old new b = record {
    walk = rw (points-changed c.old c.new es) (changed_is_walk w (points_of es) c is.walk old new b);
    own = own_with c.new (without_old w c.old es) (own_without c.old es is.own);
  }

-- ---- sums

module _ (components : List ℕ) where
  sum_at-own : (which : ℕ) (cs : List ℕ) (p : PointValues) → which < length cs → sum_at which (own_sums cs p) ≡ sum_of_value (component_of (slice_index cs which) p)
  sum_at-own which [] p h = absurd (omega arith)
  sum_at-own zero (c ∷ cs) p h = refl
  sum_at-own (suc which) (c ∷ cs) p h = sum_at-own which cs p (omega arith)

  pub sum_at-total : (which : ℕ) (es : List WalkEntry) → HaveOwn components es → which < length components → sum_at which (total [] join_sums (λ (e : WalkEntry). e.1) es) ≡ sum_over (slice_index components which) (points_of es)
  sum_at-total which [] h k = refl
  sum_at-total which (e ∷ es) h k =
      sum_at-join_sums which e.1 (total [] join_sums (λ (e : WalkEntry). e.1) es)
      ∙ (λ i. add_sums ((ap (sum_at which) h.0 ∙ sum_at-own which components e.0 k) i) (sum_at-total which es h.1 k i))

  all_take : (n : ℕ) (es : List WalkEntry) → HaveOwn components es → HaveOwn components (take n es)
  all_take zero es h = tt
  all_take (suc n) [] h = tt
  all_take (suc n) (e ∷ es) h = (h.0, all_take n es h.1)

  all_drop : (n : ℕ) (es : List WalkEntry) → HaveOwn components es → HaveOwn components (drop n es)
  all_drop zero es h = h
  all_drop (suc n) [] h = tt
  all_drop (suc n) (e ∷ es) h = all_drop n es h.1

  pub own-stretch : (from to : ℕ) (es : List WalkEntry) → HaveOwn components es → HaveOwn components (stretch from to es)
  own-stretch from to es h = all_drop from (take to es) (all_take to es h)

points-take : (n : ℕ) (es : List WalkEntry) → points_of (take n es) ≡ take n (points_of es)
points-take zero es = refl
points-take (suc n) [] = refl
points-take (suc n) (e ∷ es) = ap (λ (t : List PointValues). e.0 ∷ t) (points-take n es)

points-drop : (n : ℕ) (es : List WalkEntry) → points_of (drop n es) ≡ drop n (points_of es)
points-drop zero es = refl
points-drop (suc n) [] = refl
points-drop (suc n) (e ∷ es) = points-drop n es

pub points-stretch : (from to : ℕ) (es : List WalkEntry) → points_of (stretch from to es) ≡ stretch from to (points_of es)
points-stretch from to es = points-drop from (take to es) ∙ ap (drop from) (points-take to es)
