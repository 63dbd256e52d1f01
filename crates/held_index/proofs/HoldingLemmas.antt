-- What a walk is of the data set that its points stand for.
use Rattle.std.proofs.Common.{◌≡◌, ◌≤◌, List, [], ◌∷◌, filter, length, Bool, true, false, ◌&&◌, cond, Option, Some, None, refl, sym, ap, ◌∙◌, inl, inr, arith}
use Rattle.std.specs.Bool.{then_some}
use Rattle.std.specs.Option.{option_map}
use Rattle.std.specs.List.{AllByRecursion, slice_get}
use Rattle.std.specs.Ordering.{is_lt, is_eq, eq_by_cmp, ordering_then, ordering_reverse}
use Rattle.std.specs.FinMap.{from_entries, get-from_entries, get-entries, entries, entries_sorted, len, len-entries, find}
use Rattle.std.specs.declared.cmp.Ordering.{Ordering}
use Rattle.std.specs.declared.cmp.Ordering.TheVariants.{Less, Equal, Greater}
use Rattle.std.proofs.lemmas.Bool.{both_ways, cases_Bool}
use Rattle.std.proofs.lemmas.Cmp.{tied_itself, tied_back, alike_right}
use Rattle.vtl_values.specs.declared.value.Value.{Value}
use Rattle.vtl_values.specs.Order.{key_cmp}
use Rattle.vtl_values.proofs.Values.{key_cmp-IsTotalOrder, key_cmp-IsAntisymmetric}
use Rattle.data_model.specs.Maps.{if_passes}
use Rattle.ordered_tree.specs.Orders.{Ascends, put_in, in_order}
use Rattle.ordered_tree.proofs.Maps.{Unlike, Fits}
use Rattle.ordered_tree.proofs.Orders.{equal_from_is_eq}
use Rattle.std.specs.declared.sync.Arc.{Arc}
use Rattle.std.specs.declared.alloc.Global.{Global}
use Rattle.point_sets.specs.declared.point.Point.{Point}
use Rattle.point_sets.specs.DataSets.{DataSet, entry_of, HasKey}
use Rattle.held_index.specs.declared.want.Want.{Want}
use Rattle.held_index.specs.Walks.{PointValues, part_key, order_cmp, place_cmp, walk_cmp}
use Rattle.held_index.specs.WalkLaws.{walk_cmp-IsTotalOrder}
use Rattle.held_index.specs.WalkedPoints.{IsWalk}
use Rattle.held_index.specs.Holdings.{part_of, stands_with, found_at}
use Rattle.held_index.proofs.OrderLemmas.{is_in_order, length-in_order, ascends-in_order, unlike_sorted}

-- the data set of a list of points
abbrev pub set_of : List PointValues → DataSet
set_of ps = from_entries ps

-- ---- points are tied just where keys and values are

second_equal : (r s : Ordering) → ordering_then r s ≡ Equal → s ≡ Equal
second_equal Less s e = cc e
second_equal Equal s e = e
second_equal Greater s e = cc e

module _ (w : Want) where
  tied_keys : (p q : PointValues) → walk_cmp w p q ≡ Equal → p.0 ≡ q.0
  tied_keys p q e =
      key_cmp-IsAntisymmetric p.0 q.0 (second_equal (order_cmp w.order p q) (key_cmp p.0 q.0) (second_equal (key_cmp (part_key w.part p) (part_key w.part q)) (place_cmp w p q) e))

  pub walk_fits : Fits key_cmp (walk_cmp w) (λ (p : PointValues). p.0) (λ (p : PointValues). p.1)
  walk_fits = record {
    keys = key_cmp-IsTotalOrder;
    exact = key_cmp-IsAntisymmetric;
    items = walk_cmp-IsTotalOrder w;
    tied = tied_keys;
    alike = λ p q e f. ap (λ (r : PointValues). walk_cmp w p r) (λ i. (sym e i, sym f i)) ∙ tied_itself (walk_cmp-IsTotalOrder w) p;
  }

  -- a walk is the data set's entries in order
  pub walk_is : (ps : List PointValues) → IsWalk w ps → ps ≡ in_order (walk_cmp w) (entries (set_of ps))
  walk_is ps is =
      is_in_order walk_fits ps (entries (set_of ps)) is.ascends is.unlike (unlike_sorted key_cmp (entries (set_of ps)) (entries_sorted (set_of ps)))
      (λ q. sym (get-from_entries key_cmp-IsTotalOrder ps q) ∙ get-entries (set_of ps) q)

  pub walk_count : (ps : List PointValues) → IsWalk w ps → length ps ≤ len (set_of ps)
  walk_count ps is = rw (len-entries (set_of ps)) (omega (arith, length-in_order (walk_cmp-IsTotalOrder w) (entries (set_of ps)), ap length (walk_is ps is)))

-- ---- the points of a part of a list in order, in order

module _ (w : Want) (part : List Value) where
  abbrev is_in : PointValues → Bool
  is_in p = eq_by_cmp key_cmp (part_key w.part p) part

  parts_tie : (p q : PointValues) → is_in p ≡ true → is_in q ≡ true → key_cmp (part_key w.part p) (part_key w.part q) ≡ Equal
  parts_tie p q e f =
      let as_part : part_key w.part p ≡ part = key_cmp-IsAntisymmetric (part_key w.part p) part (equal_from_is_eq _ e) in
      let as_part' : part_key w.part q ≡ part = key_cmp-IsAntisymmetric (part_key w.part q) part (equal_from_is_eq _ f) in
      rw (as_part, as_part') (tied_itself key_cmp-IsTotalOrder part)

  in_part_cmp : (p q : PointValues) → is_in p ≡ true → is_in q ≡ true → walk_cmp w p q ≡ place_cmp w p q
  in_part_cmp p q e f = ap (λ (r : Ordering). ordering_then r (place_cmp w p q)) (parts_tie p q e f)

  -- a point that stands where another does is in its part
  tied_in : (p q : PointValues) → walk_cmp w p q ≡ Equal → is_in q ≡ true → is_in p ≡ true
  tied_in p q e f = elim (key_cmp (part_key w.part p) (part_key w.part q)) as (λ r. key_cmp (part_key w.part p) (part_key w.part q) ≡ r → ordering_then r (place_cmp w p q) ≡ Equal → is_in p ≡ true) [
    | Less ↦ λ g h. cc h
    | Equal ↦ λ g h. ap is_eq (key_cmp-IsTotalOrder.congr (part_key w.part p) (part_key w.part q) part g) ∙ f
    | Greater ↦ λ g h. cc h
  ] refl e

  -- what comes after a point that is after all of the part is not of it
  abbrev above_part : (p : PointValues) → Type 0
  above_part p = key_cmp part (part_key w.part p) ≡ Less

  not_in : (p : PointValues) → above_part p → is_in p ≡ false
  not_in p h = ap is_eq (key_cmp-IsTotalOrder.antisymm (part_key w.part p) part ∙ ap ordering_reverse h)

  none_in : (ps : List PointValues) → AllByRecursion above_part ps → filter is_in ps ≡ []
  none_in [] h = refl
  none_in (p ∷ ps) h = let n = not_in p h.0 in rw n (none_in ps h.1)

  -- what is after a point of the part, and isn't in it, is after the part
  first_above : (p q : PointValues) → is_in p ≡ true → is_in q ≡ false → walk_cmp w p q ≡ Less → above_part q
  first_above p q e f h =
      let as_part : part_key w.part p ≡ part = key_cmp-IsAntisymmetric (part_key w.part p) part (equal_from_is_eq _ e) in
      let parts : (r : Ordering) → key_cmp (part_key w.part p) (part_key w.part q) ≡ r → ordering_then r (place_cmp w p q) ≡ Less → key_cmp (part_key w.part p) (part_key w.part q) ≡ Less =
      λ r. elim r as (λ r. key_cmp (part_key w.part p) (part_key w.part q) ≡ r → ordering_then r (place_cmp w p q) ≡ Less → key_cmp (part_key w.part p) (part_key w.part q) ≡ Less) [
        | Less ↦ λ g l. g
        | Equal ↦ λ g l.
            let same : is_in p ≡ is_in q = ap is_eq (key_cmp-IsTotalOrder.congr (part_key w.part p) (part_key w.part q) part g) in
            absurd (both_ways (is_in q) f (sym same ∙ e))
        | Greater ↦ λ g l. cc l
      ] in
      ap (λ (k : List Value). key_cmp k (part_key w.part q)) (sym as_part) ∙ parts (key_cmp (part_key w.part p) (part_key w.part q)) refl h

  later_above : (p q : PointValues) → above_part p → walk_cmp w p q ≡ Less → above_part q
  later_above p q h e = elim (key_cmp (part_key w.part p) (part_key w.part q)) as (λ r. key_cmp (part_key w.part p) (part_key w.part q) ≡ r → ordering_then r (place_cmp w p q) ≡ Less → above_part q) [
    | Less ↦ λ g l. key_cmp-IsTotalOrder.trans part (part_key w.part p) (part_key w.part q) h g
    | Equal ↦ λ g l. sym (alike_right key_cmp-IsTotalOrder (part_key w.part p) (part_key w.part q) part g) ∙ h
    | Greater ↦ λ g l. cc l
  ] refl e

  all_above : (p : PointValues) (ps : List PointValues) → above_part p → AllByRecursion (λ q. walk_cmp w p q ≡ Less) ps → AllByRecursion above_part ps
  all_above p [] h k = tt
  all_above p (q ∷ qs) h k = (later_above p q h k.0, all_above p qs h k.1)

  -- a point that is put in, of another part, and of this one
  filter-put_other : (e : PointValues) (ps : List PointValues) → is_in e ≡ false → filter is_in (put_in (walk_cmp w) e ps) ≡ filter is_in ps
  filter-put_other e [] out = rw out refl
  filter-put_other e (p ∷ ps) out = elim (walk_cmp w p e) as (λ r. walk_cmp w p e ≡ r → filter is_in (cond (is_lt r) (p ∷ put_in (walk_cmp w) e ps) (e ∷ cond (is_eq r) ps (p ∷ ps))) ≡ filter is_in (p ∷ ps)) [
    | Less ↦ λ g. ap (λ (t : List PointValues). cond (is_in p) (p ∷ t) t) (filter-put_other e ps out)
    | Equal ↦ λ g.
        let other : is_in p ≡ false = elim (cases_Bool (is_in p)) [
          | inl t ↦ absurd (both_ways (is_in e) out (tied_in e p (tied_back (walk_cmp-IsTotalOrder w) p e g) t))
          | inr n ↦ n
        ] in
        rw (out, other) refl
    | Greater ↦ λ g. rw out refl
  ] refl

  filter-put_in : (e : PointValues) (ps : List PointValues) → is_in e ≡ true → Ascends (walk_cmp w) ps → filter is_in (put_in (walk_cmp w) e ps) ≡ put_in (place_cmp w) e (filter is_in ps)
  filter-put_in e [] yes' h = rw yes' refl
  filter-put_in e (p ∷ ps) yes' h = elim (cases_Bool (is_in p)) [
    | inl t ↦ elim (walk_cmp w p e) as (λ r. walk_cmp w p e ≡ r → filter is_in (cond (is_lt r) (p ∷ put_in (walk_cmp w) e ps) (e ∷ cond (is_eq r) ps (p ∷ ps))) ≡ put_in (place_cmp w) e (filter is_in (p ∷ ps))) [
      | Less ↦ λ g. let place : place_cmp w p e ≡ Less = sym (in_part_cmp p e t yes') ∙ g in rw (t, place) (ap (λ (l : List PointValues). p ∷ l) (filter-put_in e ps yes' h.1))
      | Equal ↦ λ g. let place : place_cmp w p e ≡ Equal = sym (in_part_cmp p e t yes') ∙ g in rw (t, place, yes') refl
      | Greater ↦ λ g. let place : place_cmp w p e ≡ Greater = sym (in_part_cmp p e t yes') ∙ g in rw (t, place, yes') refl
    ] refl
    | inr f ↦ elim (walk_cmp w p e) as (λ r. walk_cmp w p e ≡ r → filter is_in (cond (is_lt r) (p ∷ put_in (walk_cmp w) e ps) (e ∷ cond (is_eq r) ps (p ∷ ps))) ≡ put_in (place_cmp w) e (filter is_in (p ∷ ps))) [
      | Less ↦ λ g. rw f (filter-put_in e ps yes' h.1)
      | Equal ↦ λ g. absurd (both_ways (is_in p) f (tied_in p e g yes'))
      | Greater ↦ λ g.
          let less : walk_cmp w e p ≡ Less = (walk_cmp-IsTotalOrder w).antisymm e p ∙ ap ordering_reverse g in
          let none : filter is_in ps ≡ [] = none_in ps (all_above p ps (first_above e p yes' f less) h.0) in
          rw (yes', f, none) refl
    ] refl
  ]

  pub filter-in_order : (ps : List PointValues) → filter is_in (in_order (walk_cmp w) ps) ≡ in_order (place_cmp w) (filter is_in ps)
  filter-in_order [] = refl
  filter-in_order (p ∷ ps) = elim (cases_Bool (is_in p)) [
    | inl t ↦ filter-put_in p (in_order (walk_cmp w) ps) t (ascends-in_order (walk_cmp-IsTotalOrder w) ps) ∙ ap (put_in (place_cmp w) p) (filter-in_order ps) ∙ rw t refl
    | inr f ↦ filter-put_other p (in_order (walk_cmp w) ps) f ∙ filter-in_order ps ∙ rw f refl
  ]

-- the points of a part in a walk are the part's list
pub part_is : (w : Want) (part : List Value) (ps : List PointValues) → IsWalk w ps → filter (λ p. eq_by_cmp key_cmp (part_key w.part p) part) ps ≡ part_of w part (set_of ps)
part_is w part ps is = ap (filter (λ p. eq_by_cmp key_cmp (part_key w.part p) part)) (walk_is w ps is) ∙ filter-in_order w part (entries (set_of ps))

-- ---- the point that stands where another one does

reverse_eq : (r : Ordering) → is_eq (ordering_reverse r) ≡ is_eq r
reverse_eq Less = refl
reverse_eq Equal = refl
reverse_eq Greater = refl

module _ (w : Want) (at : PointValues) where
  keys_and_rest : (r s t : Ordering) → is_eq (ordering_then r (ordering_then s t)) ≡ ((is_eq r && is_eq s) && is_eq t)
  keys_and_rest Less s t = refl
  keys_and_rest Equal Less t = refl
  keys_and_rest Equal Equal t = refl
  keys_and_rest Equal Greater t = refl
  keys_and_rest Greater s t = refl

  stands_there : (p : PointValues) → is_eq (walk_cmp w p at) ≡ (stands_with w at p && is_eq (key_cmp p.0 at.0))
  stands_there p = keys_and_rest (key_cmp (part_key w.part p) (part_key w.part at)) (order_cmp w.order p at) (key_cmp p.0 at.0)

  and_false : (b : Bool) → (b && false) ≡ false
  and_false true = refl
  and_false false = refl

  and_true : (b : Bool) → (b && true) ≡ b
  and_true true = refl
  and_true false = refl

  is_eq-back : (k j : List Value) → is_eq (key_cmp j k) ≡ is_eq (key_cmp k j)
  is_eq-back k j = ap is_eq (key_cmp-IsTotalOrder.antisymm j k) ∙ reverse_eq (key_cmp k j)

  none_stands : (p : PointValues) (ps : List PointValues) → is_eq (key_cmp at.0 p.0) ≡ true → AllByRecursion (λ (q : PointValues). is_eq (key_cmp p.0 q.0) ≡ false) ps → filter (λ q. is_eq (walk_cmp w q at)) ps ≡ []
  none_stands p [] e h = refl
  none_stands p (q ∷ qs) e h =
      let other : is_eq (key_cmp q.0 at.0) ≡ false = is_eq-back at.0 q.0 ∙ ap is_eq (key_cmp-IsTotalOrder.congr at.0 p.0 q.0 (equal_from_is_eq _ e)) ∙ h.0 in
      let no' : is_eq (walk_cmp w q at) ≡ false = stands_there q ∙ ap (λ (b : Bool). stands_with w at q && b) other ∙ and_false (stands_with w at q) in
      rw no' (none_stands p qs e h.1)

  picked : (b : Bool) (p : PointValues) → option_map (λ (p : PointValues). p.1) (slice_get (cond b (p ∷ []) []) 0) ≡ then_some b p.1
  picked true p = refl
  picked false p = refl

  -- what is found among points with different keys
  pub found_is : (ps : List PointValues) → Unlike key_cmp (λ (p : PointValues). p.0) ps → option_map (λ (p : PointValues). p.1) (slice_get (filter (λ q. is_eq (walk_cmp w q at)) ps) 0) ≡ if_passes (λ rest. stands_with w at (at.0, rest)) (find key_cmp at.0 ps)
  found_is [] u = refl
  found_is (p ∷ ps) u = elim (cases_Bool (is_eq (key_cmp at.0 p.0))) [
    | inl t ↦
        let key : at.0 ≡ p.0 = key_cmp-IsAntisymmetric at.0 p.0 (equal_from_is_eq _ t) in
        let it : (at.0, p.1) ≡ p = λ i. (key i, p.1) in
        let tied : is_eq (walk_cmp w p at) ≡ stands_with w at p = stands_there p ∙ ap (λ (b : Bool). stands_with w at p && b) (is_eq-back at.0 p.0 ∙ t) ∙ and_true (stands_with w at p) in
        let none : filter (λ q. is_eq (walk_cmp w q at)) ps ≡ [] = none_stands p ps t u.0 in
        let passes : List Value → Bool = λ rest. stands_with w at (at.0, rest) in
        let same : passes p.1 ≡ stands_with w at p = ap (stands_with w at) it in
        (λ i. option_map (λ (p : PointValues). p.1) (slice_get (cond (tied i) (p ∷ none i) (none i)) 0))
        ∙ picked (stands_with w at p) p
        ∙ ap (λ (b : Bool). then_some b p.1) (sym same)
        ∙ ap (λ (b : Bool). if_passes passes (cond b (Some p.1) (find key_cmp at.0 ps))) (sym t)
    | inr f ↦
        let no' : is_eq (walk_cmp w p at) ≡ false = stands_there p ∙ ap (λ (b : Bool). stands_with w at p && b) (is_eq-back at.0 p.0 ∙ f) ∙ and_false (stands_with w at p) in
        rw (f, no') (found_is ps u.1)
  ]

  pub found_at_is : (ps : List PointValues) → IsWalk w ps → option_map (λ (p : PointValues). p.1) (slice_get (filter (λ q. is_eq (walk_cmp w q at)) ps) 0) ≡ found_at w at (set_of ps)
  found_at_is ps is = found_is ps is.unlike ∙ ap (if_passes (λ rest. stands_with w at (at.0, rest))) (sym (get-from_entries key_cmp-IsTotalOrder ps at.0))

  tied_head : (o : Option PointValues) (ps : List PointValues) → o ≡ slice_get (filter (λ q. is_eq (walk_cmp w q at)) ps) 0 → (p : PointValues) → o ≡ Some p → is_eq (walk_cmp w p at) ≡ true
  tied_head o [] e p is = let some : Some p ≡ None = sym is ∙ e in cc some
  tied_head o (q ∷ qs) e p is = elim (cases_Bool (is_eq (walk_cmp w q at))) [
    | inl t ↦ let same : Some p ≡ Some q = sym is ∙ e ∙ rw t refl in let it : p ≡ q = cc same in ap (λ (r : PointValues). is_eq (walk_cmp w r at)) it ∙ t
    | inr f ↦ tied_head o qs (rw f at e) p is
  ]

  -- what is found has the key
  pub key_is : (o : Option (Arc Point Global)) (ps : List PointValues) → option_map entry_of o ≡ slice_get (filter (λ q. is_eq (walk_cmp w q at)) ps) 0 → HasKey at.0 o
  key_is None ps e = tt
  key_is (Some p) ps e = tied_keys w (entry_of p) at (equal_from_is_eq _ (tied_head (Some (entry_of p)) ps e (entry_of p) refl))
