-- Points compared component by component.
use Rattle.std.proofs.Common.{◌≡◌, ℕ, ◌+◌, ◌<◌, List, [], ◌∷◌, drop, length, get_or, true, false, refl, sym, ap, ◌∙◌, arith}
use Rattle.std.proofs.lemmas.List.{drop_more}
use Rattle.std.specs.Ordering.{is_ne, ordering_then}
use Rattle.std.specs.declared.cmp.Ordering.{Ordering}
use Rattle.std.specs.declared.cmp.Ordering.TheVariants.{Less, Equal, Greater}
use Rattle.vtl_values.specs.declared.value.Value.{Value}
use Rattle.vtl_values.specs.Order.{value_cmp, key_cmp}
use Rattle.held_index.specs.declared.want.OrderItem.{OrderItem}
use Rattle.held_index.specs.Walks.{PointValues, component_of, part_key, item_cmp, order_cmp}

first_decides : (r s : Ordering) → is_ne r ≡ true → ordering_then r s ≡ r
first_decides Less s h = refl
first_decides Equal s h = cc h
first_decides Greater s h = refl

first_ties : (r s : Ordering) → is_ne r ≡ false → ordering_then r s ≡ s
first_ties Less s h = cc h
first_ties Equal s h = refl
first_ties Greater s h = cc h

module _ (p q : PointValues) where
  pub order_decided : (os : List OrderItem) (i : ℕ) (d : OrderItem) (r : Ordering) → i < length os → r ≡ item_cmp (get_or os i d) p q → is_ne r ≡ true → order_cmp (drop i os) p q ≡ order_cmp os p q → r ≡ order_cmp os p q
  order_decided os i d r l e ne so_far =
      sym (first_decides r (order_cmp (drop (i + 1) os) p q) ne)
      ∙ ap (λ (t : Ordering). ordering_then t (order_cmp (drop (i + 1) os) p q)) e
      ∙ ap (λ (t : List OrderItem). order_cmp t p q) (sym (drop_more os i d l))
      ∙ so_far

  pub parts_decided : (cs : List ℕ) (i d : ℕ) (r : Ordering) → i < length cs → r ≡ value_cmp (component_of (get_or cs i d) p) (component_of (get_or cs i d) q) → is_ne r ≡ true
      → key_cmp (part_key (drop i cs) p) (part_key (drop i cs) q) ≡ key_cmp (part_key cs p) (part_key cs q) → r ≡ key_cmp (part_key cs p) (part_key cs q)
  parts_decided cs i d r l e ne so_far =
      sym (first_decides r (key_cmp (part_key (drop (i + 1) cs) p) (part_key (drop (i + 1) cs) q)) ne)
      ∙ ap (λ (t : Ordering). ordering_then t (key_cmp (part_key (drop (i + 1) cs) p) (part_key (drop (i + 1) cs) q))) e
      ∙ ap (λ (t : List ℕ). key_cmp (part_key t p) (part_key t q)) (sym (drop_more cs i d l))
      ∙ so_far

no_items : {X : Type 0} (xs : List X) → length xs ≡ 0 → xs ≡ []
no_items [] e = refl
no_items (x ∷ xs) e = absurd (omega arith)

-- a point's part and another part, of which the rest is left
module _ (p : PointValues) (cs : List ℕ) (part rest : List Value) (i d : ℕ) (within : i < length cs) (so_far : key_cmp (part_key (drop i cs) p) rest ≡ key_cmp (part_key cs p) part) where
  pub part_longer : length rest ≡ 0 → Greater ≡ key_cmp (part_key cs p) part
  part_longer none =
      let e : rest ≡ [] = no_items rest none in
      ap (λ (t : List ℕ). key_cmp (part_key t p) []) (sym (drop_more cs i d within))
      ∙ ap (key_cmp (part_key (drop i cs) p)) (sym e)
      ∙ so_far

  unfolded : (v : Value) (later : List Value) → rest ≡ v ∷ later → ordering_then (value_cmp (component_of (get_or cs i d) p) v) (key_cmp (part_key (drop (i + 1) cs) p) later) ≡ key_cmp (part_key cs p) part
  unfolded v later e = ap (λ (t : List ℕ). key_cmp (part_key t p) (v ∷ later)) (sym (drop_more cs i d within)) ∙ ap (key_cmp (part_key (drop i cs) p)) (sym e) ∙ so_far

  pub part_decided : (v : Value) (later : List Value) (r : Ordering) → rest ≡ v ∷ later → r ≡ value_cmp (component_of (get_or cs i d) p) v → is_ne r ≡ true → r ≡ key_cmp (part_key cs p) part
  part_decided v later r e is ne =
      sym (first_decides r (key_cmp (part_key (drop (i + 1) cs) p) later) ne)
      ∙ ap (λ (t : Ordering). ordering_then t (key_cmp (part_key (drop (i + 1) cs) p) later)) is
      ∙ unfolded v later e

  pub part_goes_on : (v : Value) (later : List Value) (r : Ordering) → rest ≡ v ∷ later → r ≡ value_cmp (component_of (get_or cs i d) p) v → is_ne r ≡ false → key_cmp (part_key (drop (i + 1) cs) p) later ≡ key_cmp (part_key cs p) part
  part_goes_on v later r e is ties =
      sym (first_ties r (key_cmp (part_key (drop (i + 1) cs) p) later) ties)
      ∙ ap (λ (t : Ordering). ordering_then t (key_cmp (part_key (drop (i + 1) cs) p) later)) is
      ∙ unfolded v later e
