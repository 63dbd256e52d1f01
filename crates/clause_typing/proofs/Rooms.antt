-- A `calc` leaves the components that there are, and has one more for each item that is put into a new one.
use Rattle.std.proofs.Common.{◌≡◌, refl, ℕ, ◌+◌, ◌-◌, ◌≤◌, ◌<◌, ◌⊎◌, inl, inr, Bool, true, false, cond, List, [], ◌∷◌, Option, Some, None, length, ap, sym, ◌∙◌, arith}
use Rattle.std.specs.Prelude.{count_by, filter, nat_le, slice_get, slice_set}
use Rattle.std.specs.Option.{option_map_or}
use Rattle.std.proofs.lemmas.Bool.Decides.{leb_tells}
use Rattle.std.proofs.lemmas.List.Sums.{length-filter}
use Rattle.std.proofs.lemmas.List.{length-set, length-append}
use Rattle.vtl_values.specs.declared.kind.Kind.{Kind}
use Rattle.vtl_values.specs.declared.kind.Role.{Role}
use Rattle.vtl_values.specs.declared.structure.Component.{Component}
use Rattle.data_set_trees.specs.declared.clauses.clause.CheckedItem.{CheckedItem}
use Rattle.data_set_trees.specs.declared.clauses.clause.Target.{Target}
use Rattle.data_set_trees.specs.declared.clauses.clause.Target.TheVariants.{Old, New}
use Rattle.data_set_trees.specs.declared.clauses.frame.Frame.{Frame}
use Rattle.data_set_trees.specs.clauses.Clauses.{has_room}
use Rattle.data_set_trees.specs.clauses.After.{made, put, with_item, calculated}
use Rattle.data_set_trees.specs.clauses.Frames.{changed_at}
use Rattle.clause_typing.specs.Rooms.{names_new, is_new}

-- a component that becomes another one is still one
changed_length : (change : Component → Component) (number : ℕ) (cs : List Component) → length (changed_at change number cs) ≡ length cs
changed_length change number cs = by_found (slice_get cs number)
  where
    by_found : (o : Option Component) → length (option_map_or (λ c. slice_set cs number (change c)) o cs) ≡ length cs
    by_found None = refl
    by_found (Some c) = length-set cs number (change c)

one_put : (t : Target) (role : Role) (kind : Kind) (frame : Frame) → length (put t role kind frame).components ≡ length frame.components + cond (names_new t) 1 0
one_put (Old number) role kind frame =
    let same : length (put (Old number) role kind frame).components ≡ length frame.components = changed_length (λ c. made role kind c.name) number frame.components in
    omega (arith, same)
one_put (New name) role kind frame = length-append frame.components (made role kind name ∷ [])

with_new : (items : List CheckedItem) (frame : Frame) → length (calculated items frame).components ≡ length frame.components + length (filter is_new items)
with_new [] frame = omega arith
with_new (i ∷ is) frame = with_new is (with_item frame i) ∙ by_test (names_new i.target) (one_put i.target i.role i.kind frame)
  where
    by_test : (b : Bool) → length (with_item frame i).components ≡ length frame.components + cond b 1 0
        → length (with_item frame i).components + length (filter is_new is) ≡ length frame.components + length (cond b (i ∷ filter is_new is) (filter is_new is))
    by_test true one =
        let more : length (with_item frame i).components ≡ length frame.components + 1 = one in
        omega (arith, more)
    by_test false one =
        let same : length (with_item frame i).components ≡ length frame.components + 0 = one in
        omega (arith, same)

calculated_length : (items : List CheckedItem) (frame : Frame) → length (calculated items frame).components ≡ length frame.components + count_by is_new items
calculated_length items frame = with_new items frame ∙ ap (λ (n : ℕ). length frame.components + n) (length-filter is_new items)

-- ---- at most 64 components

same_bound : (n new left : ℕ) → n ≤ 64 → left ≡ 64 - n → nat_le new left ≡ nat_le (n + new) 64
same_bound n new left within is = by_tests (leb_tells new left) (leb_tells (n + new) 64)
  where
    by_tests : ((nat_le new left ≡ true) × (new ≤ left)) ⊎ ((nat_le new left ≡ false) × (left < new)) → ((nat_le (n + new) 64 ≡ true) × (n + new ≤ 64)) ⊎ ((nat_le (n + new) 64 ≡ false) × (64 < n + new)) → nat_le new left ≡ nat_le (n + new) 64
    by_tests (inl a) (inl b) = a.0 ∙ sym b.0
    by_tests (inl a) (inr b) = absurd (omega (arith, a.1, b.1, within, is))
    by_tests (inr a) (inl b) = absurd (omega (arith, a.1, b.1, within, is))
    by_tests (inr a) (inr b) = a.0 ∙ sym b.0

pub fits : (items : List CheckedItem) (frame : Frame) (n left new : ℕ) → n ≡ length frame.components → n ≤ 64 → left ≡ 64 - n → new ≡ count_by is_new items → nat_le new left ≡ has_room (calculated items frame)
fits items frame n left new is within rest count =
    same_bound n new left within rest
    ∙ ap (λ (m : ℕ). nat_le (n + m) 64) count
    ∙ ap (λ (m : ℕ). nat_le (m + count_by is_new items) 64) is
    ∙ ap (λ (m : ℕ). nat_le m 64) (sym (calculated_length items frame))

pub full : (items : List CheckedItem) (frame : Frame) (n : ℕ) → n ≡ length frame.components → (n ≤ 64 → ⊥) → false ≡ has_room (calculated items frame)
full items frame n is over = by_test (leb_tells after 64)
  where
    after : ℕ
    after = length (calculated items frame).components

    more : after ≡ length frame.components + count_by is_new items
    more = calculated_length items frame

    by_test : ((nat_le after 64 ≡ true) × (after ≤ 64)) ⊎ ((nat_le after 64 ≡ false) × (64 < after)) → false ≡ nat_le after 64
    by_test (inl b) = absurd (over (omega (arith, b.1, more, is)))
    by_test (inr b) = sym b.0
