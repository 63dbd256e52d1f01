-- The names of a frame.
use Rattle.std.proofs.Common.{◌≡◌, ◌≢◌, ◌⊎◌, inl, inr, refl, ℕ, zero, suc, ◌+◌, ◌<◌, Bool, true, false, not, ◌||◌, cond, List, [], ◌∷◌, ◌++◌, map, Option, Some, None, length, get_or, ap, sym, subst, ◌∙◌, arith, nat_lt}
use Rattle.std.specs.Prelude.{filter, filter_map, find, option_map, option_and_then, is_some, slice_get, nat_eq}
use Rattle.std.specs.List.{All, list_any, cons_option, position_or_len}
use Rattle.std.proofs.lemmas.Bool.{both_ways, not-true, cases_Bool}
use Rattle.std.proofs.lemmas.Bool.Decides.{Decides-eqb, nat_tests}
use Rattle.std.proofs.lemmas.List.Elements.{All-nil, All-cons, All-head, All-tail}
use Rattle.std.proofs.lemmas.List.Folds.{list_any-append, list_any_at}
use Rattle.vtl_values.specs.Texts.{same_text}
use Rattle.vtl_values.proofs.StructureNames.{same_text-Decides}
use Rattle.vtl_values.specs.declared.structure.Component.{Component}
use Rattle.scalar_trees.specs.declared.typing.scope.Basis.TheVariants.{Point}
use Rattle.scalar_trees.specs.declared.typing.scope.Column.{Column}
use Rattle.scalar_trees.specs.declared.typing.scope.ScopeName.{ScopeName}
use Rattle.scalar_trees.specs.typing.Scopes.{names_from, column_of, is_bare, first_number, bare_number, slot_at, seen_slot}
use Rattle.scalar_trees.proofs.typing.Sound.{both, left, right}
use Rattle.data_set_trees.specs.declared.clauses.frame.Frame.{Frame}
use Rattle.data_set_trees.specs.declared.clauses.clause.CheckedRename.{CheckedRename}
use Rattle.data_set_trees.specs.clauses.Frames.{frame_of, moved_name, picked, bare, changed_at}
use Rattle.data_set_trees.specs.clauses.After.{is_name_of, with_rename, renamed}
use Rattle.data_set_trees.specs.clauses.Clauses.{bare_number_of, all_differ, is_same_name}
use Rattle.data_set_trees.proofs.clauses.Changes.{changed-here, changed-other}

-- no component has the name
abbrev pub IsFree : List Component → List ℕ → Type 0
IsFree cs name = All (λ c. c.name ≢ name) cs

pub texts-differ : (a b : List ℕ) → same_text a b ≡ false → a ≢ b
texts-differ a b apart same = both_ways (same_text a b) apart ((same_text-Decides a b).1 same)

numbers-differ : (m n : ℕ) → nat_eq m n ≡ false → m ≢ n
numbers-differ m n apart same = both_ways (nat_eq m n) apart ((Decides-eqb m n).1 same)

same_number : (n : ℕ) → nat_eq n n ≡ true
same_number n = (Decides-eqb n n).1 refl

-- ---- what is among names

abbrev pub IsAmong : {A : Type 0} → A → List A → Type 0
IsAmong x [] = ⊥
IsAmong x (y ∷ ys) = (y ≡ x) ⊎ IsAmong x ys

pub among-first : {A : Type 0} (xs ys : List A) (x : A) → IsAmong x xs → IsAmong x (xs ++ ys)
among-first [] ys x h = absurd h
among-first (z ∷ zs) ys x h = elim h [ inl same ↦ inl same | inr later ↦ inr (among-first zs ys x later) ]

pub among-last : {A : Type 0} (xs ys : List A) (x : A) → IsAmong x ys → IsAmong x (xs ++ ys)
among-last [] ys x h = h
among-last (z ∷ zs) ys x h = inr (among-last zs ys x h)

among-filter : {A : Type 0} (p : A → Bool) (xs : List A) (x : A) → p x ≡ true → IsAmong x xs → IsAmong x (filter p xs)
among-filter p [] x passes h = absurd h
among-filter p (y ∷ ys) x passes h = by_test (p y) refl (among-filter p ys x passes) h
  where
    by_test : (b : Bool) → p y ≡ b → (IsAmong x ys → IsAmong x (filter p ys)) → (y ≡ x) ⊎ IsAmong x ys → IsAmong x (cond b (y ∷ filter p ys) (filter p ys))
    by_test true e later i = elim i [ inl same ↦ inl same | inr more ↦ inr (later more) ]
    by_test false e later i = elim i [ inl same ↦ absurd (both_ways (p y) e (subst (λ z. p z ≡ true) (sym same) passes)) | inr more ↦ later more ]

among-filter_map : {A B : Type 0} (h : A → Option B) (xs : List A) (x : A) (y : B) → h x ≡ Some y → IsAmong x xs → IsAmong y (filter_map h xs)
among-filter_map h [] x y is i = absurd i
among-filter_map {B = B} h (z ∷ zs) x y is i = by_item (h z) refl (among-filter_map h zs x y is) i
  where
    by_item : (o : Option B) → h z ≡ o → (IsAmong x zs → IsAmong y (filter_map h zs)) → (z ≡ x) ⊎ IsAmong x zs → IsAmong y (cons_option o (filter_map h zs))
    by_item (Some w) e later j = elim j [ inl same ↦ (let own : Some w ≡ Some y = sym e ∙ ap h same ∙ is in let gives : w ≡ y = cc in inl gives) | inr more ↦ inr (later more) ]
    by_item None e later j = elim j [ inl same ↦ (let own : None ≡ Some y = sym e ∙ ap h same ∙ is in cc) | inr more ↦ later more ]

all-among : {A : Type 0} (P : A → Type 0) (xs : List A) (x : A) → All P xs → IsAmong x xs → P x
all-among P [] x all h = absurd h
all-among P (y ∷ ys) x all h = elim h [ inl same ↦ subst P same (All-head P y ys all) | inr later ↦ all-among P ys x (All-tail P y ys all) later ]

-- ---- names that differ

neither-left : (a b : Bool) → (a || b) ≡ false → a ≡ false
neither-left true b h = cc
neither-left false b h = refl

neither-right : (a b : Bool) → (a || b) ≡ false → b ≡ false
neither-right true b h = cc
neither-right false b h = h

-- what passes nowhere passes at none
pub none-passes : {A : Type 0} (p : A → Bool) (xs : List A) → list_any p xs ≡ false → All (λ x. p x ≡ false) xs
none-passes p [] h = All-nil (λ x. p x ≡ false)
none-passes p (x ∷ xs) h = All-cons (λ y. p y ≡ false) x xs (neither-left (p x) (list_any p xs) h) (none-passes p xs (neither-right (p x) (list_any p xs) h))

first-differs : {A : Type 0} (same : A → A → Bool) (x y : A) (xs : List A) → all_differ same (x ∷ xs) ≡ true → IsAmong y xs → same x y ≡ false
first-differs same x y xs differ h = all-among (λ z. same x z ≡ false) xs y (none-passes (same x) xs (not-true (list_any (same x) xs) (left (not (list_any (same x) xs)) (all_differ same xs) differ))) h

rest-differs : {A : Type 0} (same : A → A → Bool) (x : A) (xs : List A) → all_differ same (x ∷ xs) ≡ true → all_differ same xs ≡ true
rest-differs same x xs differ = right (not (list_any (same x) xs)) (all_differ same xs) differ

-- what is in one part differs from what is in the next one
pub parts-differ : {A : Type 0} (same : A → A → Bool) (xs ys : List A) (x y : A) → all_differ same (xs ++ ys) ≡ true → IsAmong x xs → IsAmong y ys → same x y ≡ false
parts-differ same [] ys x y differ first second = absurd first
parts-differ same (z ∷ zs) ys x y differ first second = elim first [
  | inl here ↦ subst (λ w. same w y ≡ false) here (first-differs same z y (zs ++ ys) differ (among-last zs ys y second))
  | inr later ↦ parts-differ same zs ys x y (rest-differs same z (zs ++ ys) differ) later second
]

pub first_part-differs : {A : Type 0} (same : A → A → Bool) (xs ys : List A) → all_differ same (xs ++ ys) ≡ true → all_differ same xs ≡ true
first_part-differs same [] ys differ = refl
first_part-differs same (z ∷ zs) ys differ =
    let none : (list_any (same z) zs || list_any (same z) ys) ≡ false = sym (list_any-append (same z) zs ys) ∙ not-true (list_any (same z) (zs ++ ys)) (left (not (list_any (same z) (zs ++ ys))) (all_differ same (zs ++ ys)) differ) in
    both (not (list_any (same z) zs)) (all_differ same zs) (ap not (neither-left (list_any (same z) zs) (list_any (same z) ys) none)) (first_part-differs same zs ys (rest-differs same z (zs ++ ys) differ))

-- where no name stands twice, components with different numbers have different ones
pub bare-differ : (names : List ScopeName) (a b : List ℕ) (m n : ℕ) → all_differ is_same_name names ≡ true → m ≢ n → IsAmong (bare a m) names → IsAmong (bare b n) names → a ≢ b
bare-differ [] a b m n differ apart first second = absurd first
bare-differ (z ∷ zs) a b m n differ apart first second = elim first [
  | inl here ↦ elim second [
    | inl there ↦ absurd (apart (ap (λ (k : ScopeName). k.number) (sym here ∙ there)))
    | inr later ↦ texts-differ a b (subst (λ (w : ScopeName). is_same_name w (bare b n) ≡ false) here (first-differs is_same_name z (bare b n) zs differ later))
  ]
  | inr later ↦ elim second [
    | inl there ↦ (λ same. texts-differ b a (subst (λ (w : ScopeName). is_same_name w (bare a m) ≡ false) there (first-differs is_same_name z (bare a m) zs differ later)) (sym same))
    | inr more ↦ bare-differ zs a b m n (rest-differs is_same_name z zs differ) apart later more
  ]
]

-- ---- each component has its name

-- each component stands among the names under its bare name
abbrev pub EachHasItsName : Frame → Type 0
EachHasItsName frame = (number : ℕ) (c : Component) → slice_get frame.components number ≡ Some c → IsAmong (bare c.name number) frame.names

named-from : (n : ℕ) (cs : List Component) (m k : ℕ) (c : Component) → slice_get cs m ≡ Some c → k ≡ n + m → IsAmong (bare c.name k) (names_from n cs)
named-from n [] m k c h e = cc
named-from n (d ∷ ds) zero k c h e =
    let same : d ≡ c = cc in
    let here : n ≡ k = omega (arith, e) in
    inl (ap (λ (x : Component). bare x.name n) same ∙ ap (λ (j : ℕ). bare c.name j) here)
named-from n (d ∷ ds) (suc m) k c h e = inr (named-from (n + 1) ds m k c h (omega (arith, e)))

pub frame_of-named : (cs : List Component) → EachHasItsName (frame_of cs)
frame_of-named cs number c there = named-from 0 cs number number c there (omega arith)

with_rename-named : (r : CheckedRename) (frame : Frame) → EachHasItsName frame → EachHasItsName (with_rename frame r)
with_rename-named r frame has number c there =
    let others = filter (λ (n : ScopeName). not (is_name_of r.component n)) frame.names in
    let own = bare r.name r.component ∷ [] in
    elim (cases_Bool (nat_eq r.component number)) [
      | inl same ↦ (
          let is : r.component ≡ number = (Decides-eqb r.component number).0 same in
          let called : r.name ≡ c.name = changed-here (λ (d : Component). r.name ≡ d.name) (λ d. record d { name = r.name }) (λ d. refl) r.component frame.components c
          (subst (λ (n : ℕ). slice_get (changed_at (λ d. record d { name = r.name }) r.component frame.components) n ≡ Some c) (sym is) there) in
          among-last others own (bare c.name number) (inl (ap (λ (w : List ℕ). bare w r.component) called ∙ ap (λ (n : ℕ). bare c.name n) is)))
      | inr other ↦ (
          let before : slice_get frame.components number ≡ Some c = sym (changed-other (λ d. record d { name = r.name }) r.component number frame.components (numbers-differ r.component number other)) ∙ there in
          among-first others own (bare c.name number) (among-filter (λ (n : ScopeName). not (is_name_of r.component n)) frame.names (bare c.name number) (ap not other) (has number c before)))
    ]

pub renamed-named : (renames : List CheckedRename) (frame : Frame) → EachHasItsName frame → EachHasItsName (renamed renames frame)
renamed-named [] frame has = has
renamed-named (r ∷ rs) frame has = renamed-named rs (with_rename frame r) (with_rename-named r frame has)

-- ---- names of components that are picked

place-within : {A : Type 0} (p : A → Bool) (xs : List A) → list_any p xs ≡ true → position_or_len p xs < length xs
place-within p [] h = cc
place-within p (x ∷ xs) h = by_test (p x) refl (place-within p xs) h
  where
    by_test : (b : Bool) → p x ≡ b → (list_any p xs ≡ true → position_or_len p xs < length xs) → (b || list_any p xs) ≡ true → position_or_len p (x ∷ xs) < suc (length xs)
    by_test true e later i = rw e (omega arith)
    by_test false e later i = let more = later i in rw e (omega (arith, more))

less-test : (m n : ℕ) → m < n → nat_lt m n ≡ true
less-test m n h = grind (arith, nat_tests)

moved-there : (numbers : List ℕ) (name : List ℕ) (n : ℕ) → list_any (nat_eq n) numbers ≡ true → moved_name numbers (bare name n) ≡ Some (bare name (position_or_len (nat_eq n) numbers))
moved-there numbers name n h =
    ap (λ (b : Bool). option_map (λ (place : ℕ). bare name place) (cond b (Some (position_or_len (nat_eq n) numbers)) None)) (less-test (position_or_len (nat_eq n) numbers) (length numbers) (place-within (nat_eq n) numbers h))

-- a name stands for a component, whatever its number
abbrev pub HasBareName : List ScopeName → Component → Type 0
HasBareName names c = (number : ℕ) × IsAmong (bare c.name number) names

picked-among : (numbers ns : List ℕ) (cs : List Component) → All (λ n. list_any (nat_eq n) numbers ≡ true) ns → All (HasBareName (picked numbers (frame_of cs)).names) (filter_map (slice_get cs) ns)
picked-among numbers [] cs all = All-nil (HasBareName (picked numbers (frame_of cs)).names)
picked-among numbers (n ∷ ns) cs all = by_component (slice_get cs n) refl (picked-among numbers ns cs (All-tail (λ k. list_any (nat_eq k) numbers ≡ true) n ns all))
  where
    by_component : (o : Option Component) → slice_get cs n ≡ o → All (HasBareName (picked numbers (frame_of cs)).names) (filter_map (slice_get cs) ns) → All (HasBareName (picked numbers (frame_of cs)).names) (cons_option o (filter_map (slice_get cs) ns))
    by_component None e later = later
    by_component (Some c) e later =
        let listed : list_any (nat_eq n) numbers ≡ true = All-head (λ k. list_any (nat_eq k) numbers ≡ true) n ns all in
        let own : IsAmong (bare c.name (position_or_len (nat_eq n) numbers)) (filter_map (moved_name numbers) (names_from 0 cs)) =
        among-filter_map (moved_name numbers) (names_from 0 cs) (bare c.name n) (bare c.name (position_or_len (nat_eq n) numbers)) (moved-there numbers c.name n listed) (frame_of-named cs n c e) in
        All-cons (HasBareName (picked numbers (frame_of cs)).names) c (filter_map (slice_get cs) ns) (position_or_len (nat_eq n) numbers, own) later

pub picked-named : (numbers : List ℕ) (cs : List Component) → All (HasBareName (picked numbers (frame_of cs)).names) (picked numbers (frame_of cs)).components
picked-named numbers cs = picked-among numbers numbers cs (λ k d within. list_any_at (nat_eq (get_or numbers k d)) numbers k d within (same_number (get_or numbers k d)))

-- ---- names that stand for nothing

free-from : (n : ℕ) (cs : List Component) (name : List ℕ) → first_number (is_bare name) (names_from n cs) ≡ None → IsFree cs name
free-from n [] name h = All-nil (λ c. c.name ≢ name)
free-from n (c ∷ cs) name h = by_test (same_text name c.name) refl (free-from (n + 1) cs name) h
  where
    by_test : (b : Bool) → same_text name c.name ≡ b → (first_number (is_bare name) (names_from (n + 1) cs) ≡ None → IsFree cs name) → option_map (λ (m : ScopeName). m.number) (cond b (Some (bare c.name n)) (find (is_bare name) (names_from (n + 1) cs))) ≡ None → IsFree (c ∷ cs) name
    by_test true e later i = cc
    by_test false e later i = All-cons (λ d. d.name ≢ name) c cs (λ same. texts-differ name c.name e (sym same)) (later i)

first-within : (n : ℕ) (cs : List Component) (name : List ℕ) (m : ℕ) → first_number (is_bare name) (names_from n cs) ≡ Some m → m < n + length cs
first-within n [] name m h = cc
first-within n (c ∷ cs) name m h = by_test (same_text name c.name) (first-within (n + 1) cs name m) h
  where
    by_test : (b : Bool) → (first_number (is_bare name) (names_from (n + 1) cs) ≡ Some m → m < (n + 1) + length cs) → option_map (λ (k : ScopeName). k.number) (cond b (Some (bare c.name n)) (find (is_bare name) (names_from (n + 1) cs))) ≡ Some m → m < n + suc (length cs)
    by_test true later i = let same : n ≡ m = cc in omega (arith, same)
    by_test false later i = let more = later i in omega (arith, more)

column-there : (cs : List Component) (m : ℕ) → m < length cs → is_some (slice_get (map column_of cs) m) ≡ true
column-there [] m h = absurd (omega (arith, h))
column-there (c ∷ cs) zero h = refl
column-there (c ∷ cs) (suc m) h = column-there cs m (omega (arith, h))

not-gone : (m : ℕ) (o : Option Column) → is_some o ≡ true → option_map (λ s. s.number) (option_and_then (seen_slot Point m) o) ≡ None → ⊥
not-gone m None there h = cc
not-gone m (Some c) there h = cc

-- what stands for no component of a data set is the name of none
pub unknown-free : (cs : List Component) (name : List ℕ) → bare_number_of (frame_of cs) name ≡ None → IsFree cs name
unknown-free cs name h = by_number (first_number (is_bare name) (names_from 0 cs)) refl h
  where
    by_number : (o : Option ℕ) → first_number (is_bare name) (names_from 0 cs) ≡ o → option_map (λ s. s.number) (option_and_then (slot_at (map column_of cs) Point) (bare_number (names_from 0 cs) name)) ≡ None → IsFree cs name
    by_number None e i = free-from 0 cs name e
    by_number (Some m) e i = let within = first-within 0 cs name m e in absurd (not-gone m (slice_get (map column_of cs) m) (column-there cs m (omega (arith, within))) (rw e at i))
