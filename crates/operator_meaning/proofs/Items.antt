-- Lists: their parts, and orders of the numbers below their length.
use Rattle.std.proofs.Common.{◌≡◌, ◌≢◌, ◌<◌, ℕ, zero, suc, List, [], ◌∷◌, ◌++◌, length, false, eqb, subst, inl, inr, ◌⊎◌, arith}
use Rattle.std.specs.List.{All, AllPairs, AllByRecursion, Contains, list_any}
use Rattle.std.proofs.lemmas.Bool.{cases_Bool, eqb-true, or_parts}
use Rattle.std.proofs.lemmas.Bool.Decides.{Decides-eqb}
use Rattle.std.proofs.lemmas.List.Elements.{All-nil, All-cons, All-head, All-tail, All-contains}
use Rattle.std.proofs.lemmas.Map.Keys.{IsDistinct-cons}
use Rattle.std.proofs.lemmas.Map.Made.{IsDistinct-from_AllPairs}
use Rattle.std.proofs.lemmas.Map.Steps.{length-le_from_distinct_below}
use Rattle.std.proofs.lemmas.Map.Views.{Contains-from_any}

pub All-left : {A : Type 0} (P : A → Type 0) (xs ys : List A) → All P (xs ++ ys) → All P xs
All-left P [] ys h = All-nil P
All-left P (x ∷ xs) ys h = All-cons P x xs (All-head P x (xs ++ ys) h) (All-left P xs ys (All-tail P x (xs ++ ys) h))

pub All-right : {A : Type 0} (P : A → Type 0) (xs ys : List A) → All P (xs ++ ys) → All P ys
All-right P [] ys h = h
All-right P (x ∷ xs) ys h = All-right P xs ys (All-tail P x (xs ++ ys) h)

pub AllPairs-head : {A : Type 0} (R : A → A → Type 0) (x : A) (xs : List A) → AllPairs R (x ∷ xs) → All (R x) xs
AllPairs-head R x xs h k d l = h zero (suc k) d (omega arith) (omega arith)

pub AllPairs-tail : {A : Type 0} (R : A → A → Type 0) (x : A) (xs : List A) → AllPairs R (x ∷ xs) → AllPairs R xs
AllPairs-tail R x xs h i j d l m = h (suc i) (suc j) d (omega arith) (omega arith)

pub Contains-nothing : {A : Type 0} (x : A) → Contains [] x → ⊥
Contains-nothing x h = let l = h.1 in omega (arith, l)

pub Contains-head_or_tail : {A : Type 0} (x y : A) (ys : List A) → Contains (y ∷ ys) x → (y ≡ x) ⊎ Contains ys x
Contains-head_or_tail x y ys (zero, l, e) = inl e
Contains-head_or_tail x y ys (suc k, l, e) = inr (k, omega arith, e)

none_equal : (i : ℕ) (os : List ℕ) → list_any (eqb i) os ≡ false → AllByRecursion (λ o. eqb i o ≡ false) os
none_equal i [] h = tt
none_equal i (o ∷ os) h = let p = or_parts (eqb i o) (list_any (eqb i) os) h in (p.0, none_equal i os p.1)

-- of so many distinct numbers below their number none is missing
pub Contains-from_distinct_below : (os : List ℕ) (n i : ℕ) → length os ≡ n → All (λ o. o < n) os → AllPairs (λ a b. a ≢ b) os → i < n → Contains os i
Contains-from_distinct_below os n i all below once l = elim (cases_Bool (list_any (eqb i) os)) [
  | inl there ↦ Contains-from_any eqb-true i os there
  | inr absent ↦
      let distinct = IsDistinct-cons eqb i os (none_equal i os absent) (IsDistinct-from_AllPairs Decides-eqb os once) in
      let few = length-le_from_distinct_below (i ∷ os) n distinct (λ q there.
      elim (Contains-head_or_tail q i os (Contains-from_any eqb-true q (i ∷ os) there)) [
        | inl same ↦ subst (λ m. m < n) same l
        | inr later ↦ All-contains (λ o. o < n) os q below later
      ]) in
      absurd (omega (arith, few, all))
]
