-- Lists of keys, and keys that end with a name.
use Rattle.std.proofs.Common.{◌≡◌, ℕ, List, [], ◌∷◌, ◌++◌, map, length, take, Bool, true, false, cond, ◌&&◌, ◌||◌, Option, Some, None, refl, sym, ap, subst, ◌∙◌, inl, inr}
use Rattle.std.specs.Prelude.{pred, nat_eq, filter, find, flat_map}
use Rattle.std.specs.List.{list_any, list_all, last_or}
use Rattle.std.specs.Cmp.{IsTotalOrder}
use Rattle.std.specs.Ordering.{eq_by_cmp}
use Rattle.std.specs.FinMap.{IsAntisymmetric}
use Rattle.std.specs.declared.cmp.Ordering.{Ordering}
use Rattle.std.proofs.lemmas.Bool.{cases_Bool, eqb-true}
use Rattle.std.proofs.lemmas.List.Folds.{list_any-append}
use Rattle.data_model.specs.Maps.{is_listed}
use Rattle.scalar_trees.proofs.typing.Sound.{left, right}
use Rattle.data_model.proofs.MapLemmas.{neither, tied}

-- what comes to an unlisted key isn't found
pub find-unlisted : {K L : Type 0} (S : L → L → Ordering) (p : K → Bool) (f : K → L) (l : L) (ks : List K) → is_listed S (map f (filter p ks)) l ≡ false → find (λ k. p k && eq_by_cmp S l (f k)) ks ≡ None
find-unlisted S p f l [] h = refl
find-unlisted S p f l (k ∷ ks) h = elim (p k) as (λ b. is_listed S (map f (cond b (k ∷ filter p ks) (filter p ks))) l ≡ false → cond (b && eq_by_cmp S l (f k)) (Some k) (find (λ j. p j && eq_by_cmp S l (f j)) ks) ≡ None) [
  | true ↦ λ i. let apart = neither (eq_by_cmp S l (f k)) (is_listed S (map f (filter p ks)) l) i in rw apart.0 (find-unlisted S p f l ks apart.1)
  | false ↦ λ i. find-unlisted S p f l ks i
] h

pub either-right : (a b : Bool) → b ≡ true → (a || b) ≡ true
either-right true b h = refl
either-right false b h = h

either-left : (a b : Bool) → a ≡ true → (a || b) ≡ true
either-left true b h = refl
either-left false b h = cc

-- a key that is made of a listed one is listed
pub listed-flat_map : {K L : Type 0} (R : K → K → Ordering) (S : L → L → Ordering) → IsTotalOrder R → IsAntisymmetric R → (f : K → List L) (k : K) (l : L) (ks : List K) → is_listed R ks k ≡ true → is_listed S (f k) l ≡ true → is_listed S (flat_map f ks) l ≡ true
listed-flat_map R S o exact f k l [] h i = cc
listed-flat_map R S o exact f k l (j ∷ js) h i = list_any-append (eq_by_cmp S l) (f j) (flat_map f js) ∙ elim (cases_Bool (eq_by_cmp R k j)) [
  | inl same ↦ either-left (is_listed S (f j) l) (is_listed S (flat_map f js) l) (subst (λ q. is_listed S (f q) l ≡ true) (tied o exact k j same) i)
  | inr other ↦ either-right (is_listed S (f j) l) (is_listed S (flat_map f js) l) (listed-flat_map R S o exact f k l js (subst (λ b. (b || is_listed R js k) ≡ true) other h) i)
]

split : {A : Type 0} (x : A) (xs : List A) (v : A) → last_or (Some x) xs ≡ Some v → x ∷ xs ≡ take (length xs) (x ∷ xs) ++ v ∷ []
split x [] v h = let same : x ≡ v = cc in ap (λ y. y ∷ []) same
split x (y ∷ ys) v h = ap (λ zs. x ∷ zs) (split y ys v h)

-- a list is what comes before its last item, and that item
pub split-last : {A : Type 0} (xs : List A) (v : A) → last_or None xs ≡ Some v → xs ≡ take (pred (length xs)) xs ++ v ∷ []
split-last [] v h = cc
split-last (x ∷ xs) v h = split x xs v h

pub last-pushed : {A : Type 0} (o : Option A) (xs : List A) (v : A) → last_or o (xs ++ v ∷ []) ≡ Some v
last-pushed o [] v = refl
last-pushed o (x ∷ xs) v = last-pushed (Some x) xs v

all_but_pushed : {A : Type 0} (x : A) (xs : List A) (v : A) → take (length (xs ++ v ∷ [])) (x ∷ (xs ++ v ∷ [])) ≡ x ∷ xs
all_but_pushed x [] v = refl
all_but_pushed x (y ∷ ys) v = ap (λ zs. x ∷ zs) (all_but_pushed y ys v)

-- and what comes before an item that was put last is the list before it
pub before-pushed : {A : Type 0} (xs : List A) (v : A) → take (pred (length (xs ++ v ∷ []))) (xs ++ v ∷ []) ≡ xs
before-pushed [] v = refl
before-pushed (x ∷ xs) v = all_but_pushed x xs v

-- what is found passes
pub found : {A : Type 0} (p : A → Bool) (xs : List A) (x : A) → find p xs ≡ Some x → p x ≡ true
found p [] x h = cc
found p (y ∷ ys) x h = elim (cases_Bool (p y)) [
  | inl passes ↦ let same : y ≡ x = cc (rw passes at h) in subst (λ z. p z ≡ true) same passes
  | inr fails ↦ found p ys x (rw fails at h)
]

-- what all have has each of them
pub among-passes : (p : ℕ → Bool) (ns : List ℕ) (n : ℕ) → list_all p ns ≡ true → list_any (nat_eq n) ns ≡ true → p n ≡ true
among-passes p [] n h i = cc
among-passes p (m ∷ ms) n h i = elim (cases_Bool (nat_eq n m)) [
  | inl same ↦ subst (λ k. p k ≡ true) (sym (eqb-true n m same)) (left (p m) (list_all p ms) h)
  | inr other ↦ among-passes p ms n (right (p m) (list_all p ms) h) (rw other at i)
]
