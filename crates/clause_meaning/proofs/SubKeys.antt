-- Keys that come to one key of `sub` are one.
use Rattle.std.proofs.Common.{◌≡◌, ◌+◌, ◌*◌, ◌*ℤ◌, ℕ, zero, suc, ℤ, pos, negsuc, neg_ℤ, List, [], ◌∷◌, ◌++◌, drop, map, Bool, true, false, cond, not, ◌&&◌, if◌then◌else◌, Option, Some, refl, sym, ap, subst, ◌∙◌, inl, inr, arith}
use Rattle.std.proofs.Math.IntN.{pos-*ℤ-pos, negsuc-*ℤ-pos, neg_ℤ-neg_ℤ}
use Rattle.std.specs.Prelude.{filter, slice_get, nat_eq}
use Rattle.std.specs.Option.{option_map_or}
use Rattle.std.specs.List.{AllZip, list_all, cons_option}
use Rattle.std.proofs.lemmas.Bool.{cases_Bool, eqb-true}
use Rattle.vtl_values.specs.declared.kind.Kind.{Kind}
use Rattle.vtl_values.specs.declared.kind.Kind.TheVariants as kind
use Rattle.vtl_values.specs.declared.structure.Component.{Component}
use Rattle.vtl_values.specs.declared.value.Value.{Value}
use Rattle.vtl_values.specs.declared.value.Value.TheVariants.{Null, Truth, Integer, Number, Text}
use Rattle.vtl_values.specs.Order.{value_cmp}
use Rattle.vtl_values.specs.Texts.{Fits}
use Rattle.vtl_values.proofs.Values.{value_cmp-IsAntisymmetric}
use Rattle.data_model.proofs.MapLemmas.{equal}
use Rattle.scalar_trees.proofs.typing.Sound.{left, right}
use Rattle.structured_sets.specs.Fitting.{is_identifier, identifiers, others, FitsIdentifier}
use Rattle.scalar_trees.specs.Kinds.{number_value}
use Rattle.data_set_trees.specs.declared.clauses.frame.Frame.{Frame}
use Rattle.data_set_trees.specs.declared.clauses.clause.CheckedSubItem.{CheckedSubItem}
use Rattle.data_set_trees.specs.clauses.Frames.{numbers_from}
use Rattle.data_set_trees.specs.clauses.After.{is_among, is_left}
use Rattle.clause_meaning.specs.Clauses.{values_at, is_equal, has_value, has_values, key_left}
use Rattle.clause_meaning.specs.Ordered.{HasIdentifiersFirst}
use Rattle.clause_meaning.proofs.Picked.{head-at, tail-at}

-- ---- values of one kind that are equal as numbers

neither_sign : (x y : ℕ) → pos x ≡ neg_ℤ (pos y) → y ≡ 0
neither_sign x zero e = refl
neither_sign x (suc y) e = cc

same_integer : (m n : ℤ) → m *ℤ pos 1000000 ≡ n *ℤ pos 1000000 → m ≡ n
same_integer (pos m) (pos n) e = let same : pos (m * 1000000) ≡ pos (n * 1000000) = sym (pos-*ℤ-pos m 1000000) ∙ e ∙ pos-*ℤ-pos n 1000000 in let plain : m * 1000000 ≡ n * 1000000 = cc in let is : m ≡ n = omega (arith, plain) in ap pos is
same_integer (pos m) (negsuc n) e = let none = neither_sign (m * 1000000) (suc n * 1000000) (sym (pos-*ℤ-pos m 1000000) ∙ e ∙ negsuc-*ℤ-pos n 1000000) in absurd (omega (arith, none))
same_integer (negsuc m) (pos n) e = let none = neither_sign (n * 1000000) (suc m * 1000000) (sym (pos-*ℤ-pos n 1000000) ∙ sym e ∙ negsuc-*ℤ-pos m 1000000) in absurd (omega (arith, none))
same_integer (negsuc m) (negsuc n) e =
    let same : neg_ℤ (pos (suc m * 1000000)) ≡ neg_ℤ (pos (suc n * 1000000)) = sym (negsuc-*ℤ-pos m 1000000) ∙ e ∙ negsuc-*ℤ-pos n 1000000 in
    let turned : pos (suc m * 1000000) ≡ pos (suc n * 1000000) = sym (neg_ℤ-neg_ℤ (pos (suc m * 1000000))) ∙ ap neg_ℤ same ∙ neg_ℤ-neg_ℤ (pos (suc n * 1000000)) in
    let plain : suc m * 1000000 ≡ suc n * 1000000 = cc in
    let is : m ≡ n = omega (arith, plain) in
    ap negsuc is

two_kinds : {A : Type 0} (k : Kind) (m n : ℤ) → Fits k (Integer m) → Fits k (Number n) → A
two_kinds kind.Integer m n f g = absurd g
two_kinds kind.Number m n f g = absurd f
two_kinds kind.Text m n f g = absurd f
two_kinds kind.Truth m n f g = absurd f

same_number : (k : Kind) (v w : Value) → Fits k v → Fits k w → number_value v ≡ number_value w → v ≡ w
same_number k Null Null f g e = refl
same_number k Null (Truth c) f g e = cc
same_number k Null (Integer n) f g e = cc
same_number k Null (Number n) f g e = cc
same_number k Null (Text ds) f g e = cc
same_number k (Truth b) Null f g e = cc
same_number k (Truth b) (Truth c) f g e = e
same_number k (Truth b) (Integer n) f g e = cc
same_number k (Truth b) (Number n) f g e = cc
same_number k (Truth b) (Text ds) f g e = cc
same_number k (Integer m) Null f g e = cc
same_number k (Integer m) (Truth c) f g e = cc
same_number k (Integer m) (Integer n) f g e = let same : m *ℤ pos 1000000 ≡ n *ℤ pos 1000000 = cc in ap Integer (same_integer m n same)
same_number k (Integer m) (Number n) f g e = two_kinds k m n f g
same_number k (Integer m) (Text ds) f g e = cc
same_number k (Number m) Null f g e = cc
same_number k (Number m) (Truth c) f g e = cc
same_number k (Number m) (Integer n) f g e = two_kinds k n m g f
same_number k (Number m) (Number n) f g e = e
same_number k (Number m) (Text ds) f g e = cc
same_number k (Text cs) Null f g e = cc
same_number k (Text cs) (Truth c) f g e = cc
same_number k (Text cs) (Integer n) f g e = cc
same_number k (Text cs) (Number n) f g e = cc
same_number k (Text cs) (Text ds) f g e = e

-- ---- identifiers that are named

-- what has a value has it as a number
has-number : (key : List Value) (item : CheckedSubItem) (v : Value) → slice_get key item.component ≡ Some v → has_value key item ≡ true → number_value item.value ≡ number_value v
has-number key item v there h =
    let tests : is_equal item.value v ≡ true = sym (ap (λ (o : Option Value). option_map_or (is_equal item.value) o false) there) ∙ h in
    value_cmp-IsAntisymmetric (number_value item.value) (number_value v) (equal (value_cmp (number_value item.value) (number_value v)) tests)

-- two keys have one value, as a number, where an item names the identifier
named-alike : (items : List CheckedSubItem) (k j : List Value) (m : ℕ) (v w : Value) → has_values items k ≡ true → has_values items j ≡ true → is_among (map (λ i. i.component) items) m ≡ true → slice_get k m ≡ Some v → slice_get j m ≡ Some w → number_value v ≡ number_value w
named-alike [] k j m v w h i among at to = cc
named-alike (item ∷ items) k j m v w h i among at to = elim (cases_Bool (nat_eq m item.component)) [
  | inl same ↦
      let is : m ≡ item.component = eqb-true m item.component same in
      let first : number_value item.value ≡ number_value v = has-number k item v (subst (λ n. slice_get k n ≡ Some v) is at) (left (has_value k item) (has_values items k) h) in
      let second : number_value item.value ≡ number_value w = has-number j item w (subst (λ n. slice_get j n ≡ Some w) is to) (left (has_value j item) (has_values items j) i) in
      sym first ∙ second
  | inr other ↦ named-alike items k j m v w (right (has_value k item) (has_values items k) h) (right (has_value j item) (has_values items j) i) (rw other at among) at to
]

-- ---- all identifiers

module _ (numbers : List ℕ) (k j : List Value) (alike : (m : ℕ) (v w : Value) → is_among numbers m ≡ true → slice_get k m ≡ Some v → slice_get j m ≡ Some w → number_value v ≡ number_value w) where
  abbrev stays : ℕ → Component → Bool
  stays m c = is_identifier c && is_left numbers m c

  abbrev after_one : ℕ → List Component → List ℕ
  after_one n cs = numbers_from stays (n + 1) cs

  -- the values from a number on
  same_from : (cs : List Component) (n : ℕ) (vs ws : List Value) → list_all is_identifier cs ≡ true → drop n k ≡ vs → drop n j ≡ ws → AllZip FitsIdentifier cs vs → AllZip FitsIdentifier cs ws → values_at (numbers_from stays n cs) k ≡ values_at (numbers_from stays n cs) j → vs ≡ ws
  same_from [] n [] [] all at to f g e = refl
  same_from [] n [] (w ∷ ws) all at to f g e = absurd g
  same_from [] n (v ∷ vs) ws all at to f g e = absurd f
  same_from (c ∷ cs) n [] ws all at to f g e = absurd f
  same_from (c ∷ cs) n (v ∷ vs) [] all at to f g e = absurd g
  same_from (c ∷ cs) n (v ∷ vs) (w ∷ ws) all at to f g e =
      by_test (is_among numbers n) refl (rw (left (is_identifier c) (list_all is_identifier cs) all) at e)
      (same_from cs (n + 1) vs ws (right (is_identifier c) (list_all is_identifier cs) all) (tail-at n k v vs at) (tail-at n j w ws to) f.1 g.1)
    where
      one : slice_get k n ≡ Some v
      one = head-at n k v vs at

      two : slice_get j n ≡ Some w
      two = head-at n j w ws to

      by_test : (b : Bool) → is_among numbers n ≡ b → values_at (if (true && not b) then n ∷ after_one n cs else after_one n cs) k ≡ values_at (if (true && not b) then n ∷ after_one n cs else after_one n cs) j → (values_at (after_one n cs) k ≡ values_at (after_one n cs) j → vs ≡ ws) → v ∷ vs ≡ w ∷ ws
      by_test true among h rest =
          let same : v ≡ w = same_number c.kind v w f.0.fits.kind g.0.fits.kind (alike n v w among one two) in
          let more : vs ≡ ws = rest h in
          λ i. same i ∷ more i
      by_test false apart h rest =
          let both : v ∷ values_at (after_one n cs) k ≡ w ∷ values_at (after_one n cs) j = sym (ap (λ (o : Option Value). cons_option o (values_at (after_one n cs) k)) one) ∙ h ∙ ap (λ (o : Option Value). cons_option o (values_at (after_one n cs) j)) two in
          let same : v ≡ w = cc in
          let tails : values_at (after_one n cs) k ≡ values_at (after_one n cs) j = cc in
          let more : vs ≡ ws = rest tails in
          λ i. same i ∷ more i

-- what passes a filter passes
filtered-all : {A : Type 0} (p : A → Bool) (xs : List A) → list_all p (filter p xs) ≡ true
filtered-all p [] = refl
filtered-all {A = A} p (x ∷ xs) = by_test (p x) refl (filtered-all p xs)
  where
    by_test : (b : Bool) → p x ≡ b → list_all p (filter p xs) ≡ true → list_all p (cond b (x ∷ filter p xs) (filter p xs)) ≡ true
    by_test true e later = rw e later
    by_test false e later = later

-- no number of what isn't an identifier
none-of-others : (q : ℕ → Component → Bool) (n : ℕ) (cs : List Component) → list_all (λ c. not (is_identifier c)) cs ≡ true → numbers_from (λ m c. is_identifier c && q m c) n cs ≡ []
none-of-others q n [] all = refl
none-of-others q n (c ∷ cs) all = by_test (is_identifier c) refl (none-of-others q (n + 1) cs (right (not (is_identifier c)) (list_all (λ d. not (is_identifier d)) cs) all))
  where
    by_test : (b : Bool) → is_identifier c ≡ b → numbers_from (λ m d. is_identifier d && q m d) (n + 1) cs ≡ [] → (if (b && q n c) then n ∷ numbers_from (λ m d. is_identifier d && q m d) (n + 1) cs else numbers_from (λ m d. is_identifier d && q m d) (n + 1) cs) ≡ []
    by_test true e later = let no : not (is_identifier c) ≡ true = left (not (is_identifier c)) (list_all (λ d. not (is_identifier d)) cs) all in cc (rw e at no)
    by_test false e later = later

-- so identifiers alone count, where they stand first
numbers-first : (q : ℕ → Component → Bool) (n : ℕ) (is os : List Component) → list_all (λ c. not (is_identifier c)) os ≡ true → numbers_from (λ m c. is_identifier c && q m c) n (is ++ os) ≡ numbers_from (λ m c. is_identifier c && q m c) n is
numbers-first q n [] os none = none-of-others q n os none
numbers-first q n (c ∷ cs) os none = ap (λ (ns : List ℕ). if (is_identifier c && q n c) then n ∷ ns else ns) (numbers-first q (n + 1) cs os none)

-- two keys of a frame that come to one key are one
pub sub-keys : (items : List CheckedSubItem) (frame : Frame) (k j : List Value) → HasIdentifiersFirst frame → AllZip FitsIdentifier (identifiers frame.components) k → AllZip FitsIdentifier (identifiers frame.components) j → has_values items k ≡ true → has_values items j ≡ true → key_left items frame k ≡ key_left items frame j → k ≡ j
sub-keys items frame k j first f g h i e =
    let numbers : List ℕ = map (λ item. item.component) items in
    let own : numbers_from (λ m c. is_identifier c && is_left numbers m c) 0 frame.components ≡ numbers_from (λ m c. is_identifier c && is_left numbers m c) 0 (identifiers frame.components) =
    ap (numbers_from (λ m c. is_identifier c && is_left numbers m c) 0) first ∙ numbers-first (is_left numbers) 0 (identifiers frame.components) (others frame.components) (filtered-all (λ c. not (is_identifier c)) frame.components) in
    same_from numbers k j (λ m v w among at to. named-alike items k j m v w h i among at to) (identifiers frame.components) 0 k j (filtered-all is_identifier frame.components) refl refl f g
    (sym (ap (λ (ns : List ℕ). values_at ns k) own) ∙ e ∙ ap (λ (ns : List ℕ). values_at ns j) own)
