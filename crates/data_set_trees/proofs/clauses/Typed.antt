-- What typing gives is well typed.
use Rattle.std.proofs.Common.{◌≡◌, refl, ℕ, zero, suc, true, false, not, ◌&&◌, List, [], ◌∷◌, map, Option, Some, None, ap, sym, subst, ◌∙◌}
use Rattle.std.specs.Prelude.{slice_get, option_map, option_and_then}
use Rattle.std.specs.Option.{option_map_or}
use Rattle.std.specs.List.{All, list_all, cons_option}
use Rattle.std.proofs.lemmas.List.Elements.{All-head, All-tail}
use Rattle.vtl_values.specs.declared.structure.Component.{Component}
use Rattle.vtl_syntax.specs.declared.expr.Rename.{Rename}
use Rattle.scalar_trees.specs.declared.typing.scope.Basis.TheVariants.{Point}
use Rattle.scalar_trees.specs.declared.typing.scope.Column.{Column}
use Rattle.scalar_trees.specs.typing.Scopes.{column_of, bare_number, first_number, is_member, slot_at, seen_slot}
use Rattle.scalar_trees.proofs.typing.Sound.{both, left, right}
use Rattle.data_set_trees.specs.declared.clauses.frame.Frame.{Frame}
use Rattle.data_set_trees.specs.declared.clauses.clause.CheckedItem.{CheckedItem}
use Rattle.data_set_trees.specs.clauses.Clauses.{IsItemOf, slot_of, number_of, may_be_target, may_calculate, renames_checked}
use Rattle.data_set_trees.specs.clauses.WellTyped.{is_of, may_be_made, is_item, is_component}
use Rattle.data_set_trees.proofs.clauses.Made.{IsPlain, items_plain}

-- ---- calc

pub items_are : (frame : Frame) (items : List CheckedItem) → may_calculate frame items ≡ true → All (λ i. IsPlain i.role) items → All (λ i. is_of frame i.kind i.value ≡ true) items → list_all (is_item frame) items ≡ true
items_are frame [] may plain typed = refl
items_are frame (i ∷ is) may plain typed =
    let target = may_be_target frame i.target in
    let made : may_be_made i.role ≡ true = ap not (All-head (λ j. IsPlain j.role) i is plain) in
    let own : is_item frame i ≡ true = both (target && may_be_made i.role) (is_of frame i.kind i.value) (both target (may_be_made i.role) (left target (may_calculate frame is) may) made) (All-head (λ j. is_of frame j.kind j.value ≡ true) i is typed) in
    both (is_item frame i) (list_all (is_item frame) is) own
    (items_are frame is (right target (may_calculate frame is) may) (All-tail (λ j. IsPlain j.role) i is plain) (All-tail (λ j. is_of frame j.kind j.value ≡ true) i is typed))

pub items_well_typed : (frame : Frame) (items : List CheckedItem) → may_calculate frame items ≡ true → All (IsItemOf frame) items → All (λ i. is_of frame i.kind i.value ≡ true) items → list_all (is_item frame) items ≡ true
items_well_typed frame items may all typed = items_are frame items may (items_plain frame items may all) typed

-- ---- rename

column_has : (cs : List Component) (n : ℕ) → slice_get (map column_of cs) n ≡ option_map column_of (slice_get cs n)
column_has [] n = refl
column_has (c ∷ cs) zero = refl
column_has (c ∷ cs) (suc n) = column_has cs n

-- what a number that is found stands for is there
slot_has : (cs : List Component) (k n : ℕ) → option_map (λ s. s.number) (slot_at (map column_of cs) Point k) ≡ Some n → option_map_or (λ c. true) (slice_get cs n) false ≡ true
slot_has cs k n h = by_component (slice_get cs k) refl (ap (λ (o : Option Column). option_map (λ s. s.number) (option_and_then (seen_slot Point k) o)) (sym (column_has cs k)) ∙ h)
  where
    by_component : (o : Option Component) → slice_get cs k ≡ o → option_map (λ s. s.number) (option_and_then (seen_slot Point k) (option_map column_of o)) ≡ Some n → option_map_or (λ c. true) (slice_get cs n) false ≡ true
    by_component None there i = cc
    by_component (Some c) there i =
        let same : k ≡ n = cc in
        subst (λ (m : ℕ). option_map_or (λ d. true) (slice_get cs m) false ≡ true) same (ap (λ (o : Option Component). option_map_or (λ d. true) o false) there)

found_has : (cs : List Component) (o : Option ℕ) (n : ℕ) → option_map (λ s. s.number) (option_and_then (slot_at (map column_of cs) Point) o) ≡ Some n → option_map_or (λ c. true) (slice_get cs n) false ≡ true
found_has cs None n h = cc
found_has cs (Some k) n h = slot_has cs k n h

-- a name stands for a component that is there
named_has : (frame : Frame) (name : List ℕ) (member : Option (List ℕ)) (n : ℕ) → option_map (λ s. s.number) (slot_of frame name member) ≡ Some n → is_component frame n ≡ true
named_has frame name None n h = found_has frame.components (bare_number frame.names name) n h
named_has frame name (Some member) n h = found_has frame.components (first_number (is_member name member) frame.names) n h

pub renames_there : (frame : Frame) (renames : List Rename) → list_all (λ r. is_component frame r.component) (renames_checked frame renames) ≡ true
renames_there frame [] = refl
renames_there frame (r ∷ rs) = by_number (number_of frame r.component) refl (renames_there frame rs)
  where
    by_number : (o : Option ℕ) → number_of frame r.component ≡ o → list_all (λ q. is_component frame q.component) (renames_checked frame rs) ≡ true
        → list_all (λ q. is_component frame q.component) (cons_option (option_map (λ number. record { component = number; name = r.name }) o) (renames_checked frame rs)) ≡ true
    by_number None e later = later
    by_number (Some n) e later = both (is_component frame n) (list_all (λ q. is_component frame q.component) (renames_checked frame rs)) (named_has frame r.component.name r.component.component n e) later
