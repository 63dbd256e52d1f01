-- Where numbers stand in a list, for the first time.
use Rattle.std.proofs.Common.{◌≡◌, refl, ℕ, ◌+◌, ◌<◌, Bool, true, false, cond, List, [], ◌∷◌, ◌++◌, Option, Some, None, length, get_or, take, nat_eq, ap, sym, ◌∙◌, arith}
use Rattle.std.specs.Prelude.{position, is_some}
use Rattle.std.specs.List.{position_from}
use Rattle.std.specs.Option.{option_or}
use Rattle.std.proofs.lemmas.Bool.{eqb-true}
use Rattle.std.proofs.lemmas.Cmp.{nat_eq_equiv}
use Rattle.std.proofs.lemmas.Iterator.Adapters.{position_from-zero}
use Rattle.std.proofs.lemmas.List.{take_more, length-take-le}

-- one item more
from-push : {A : Type 0} (p : A → Bool) (i : ℕ) (xs : List A) (y : A) → position_from p i (xs ++ y ∷ []) ≡ option_or (position_from p i xs) (cond (p y) (Some (i + length xs)) None)
from-push p i [] y = ap (λ (n : ℕ). cond (p y) (Some n) None) (omega arith)
from-push p i (x ∷ xs) y = by_test (p x) (from-push p (i + 1) xs y)
  where
    by_test : (b : Bool) → position_from p (i + 1) (xs ++ y ∷ []) ≡ option_or (position_from p (i + 1) xs) (cond (p y) (Some ((i + 1) + length xs)) None)
        → cond b (Some i) (position_from p (i + 1) (xs ++ y ∷ [])) ≡ option_or (cond b (Some i) (position_from p (i + 1) xs)) (cond (p y) (Some (i + length (x ∷ xs))) None)
    by_test true later = refl
    by_test false later =
        let on : (i + 1) + length xs ≡ i + length (x ∷ xs) = omega arith in
        later ∙ ap (λ (n : ℕ). option_or (position_from p (i + 1) xs) (cond (p y) (Some n) None)) on

position-push : {A : Type 0} (p : A → Bool) (xs : List A) (y : A) → position p (xs ++ y ∷ []) ≡ option_or (position p xs) (cond (p y) (Some (length xs)) None)
position-push p xs y =
    let start : 0 + length xs ≡ length xs = omega arith in
    position_from-zero p (xs ++ y ∷ [])
    ∙ from-push p 0 xs y
    ∙ ap (λ (o : Option ℕ). option_or o (cond (p y) (Some (0 + length xs)) None)) (sym (position_from-zero p xs))
    ∙ ap (λ (n : ℕ). option_or (position p xs) (cond (p y) (Some n) None)) start

alone : (o : Option ℕ) → o ≡ option_or o None
alone None = refl
alone (Some m) = refl

module _ (place : ℕ → Option ℕ) (numbers : List ℕ) (i : ℕ) (within : i < length numbers) (so_far : (n : ℕ) → place n ≡ position (nat_eq n) (take i numbers)) where
  abbrev number : ℕ
  number = get_or numbers i 0

  pushed : (n : ℕ) → position (nat_eq n) (take (i + 1) numbers) ≡ option_or (place n) (cond (nat_eq n number) (Some i) None)
  pushed n =
      ap (position (nat_eq n)) (take_more numbers i 0 within)
      ∙ position-push (nat_eq n) (take i numbers) number
      ∙ ap (λ (o : Option ℕ). option_or o (cond (nat_eq n number) (Some (length (take i numbers))) None)) (sym (so_far n))
      ∙ ap (λ (m : ℕ). option_or (place n) (cond (nat_eq n number) (Some m) None)) (length-take-le i numbers (omega arith))

  -- a number that stood before keeps its place
  pub kept_places : is_some (place number) ≡ true → (n : ℕ) → place n ≡ position (nat_eq n) (take (i + 1) numbers)
  kept_places there n = by_test (nat_eq n number) refl ∙ sym (pushed n)
    where
      stays : (o : Option ℕ) → is_some o ≡ true → o ≡ option_or o (Some i)
      stays None h = cc
      stays (Some m) h = refl

      by_test : (b : Bool) → nat_eq n number ≡ b → place n ≡ option_or (place n) (cond b (Some i) None)
      by_test true same = stays (place n) (ap (λ (m : ℕ). is_some (place m)) (eqb-true n number same) ∙ there)
      by_test false other = alone (place n)

  -- another one stands here
  pub new_place : is_some (place number) ≡ false → (after : ℕ → Option ℕ) → ((n : ℕ) → after n ≡ cond (nat_eq number n) (Some i) (place n)) → (n : ℕ) → after n ≡ position (nat_eq n) (take (i + 1) numbers)
  new_place missing after is n = is n ∙ ap (λ (b : Bool). cond b (Some i) (place n)) (nat_eq_equiv.symm number n) ∙ by_test (nat_eq n number) refl ∙ sym (pushed n)
    where
      put : (o : Option ℕ) → is_some o ≡ false → Some i ≡ option_or o (Some i)
      put None h = refl
      put (Some m) h = cc

      by_test : (b : Bool) → nat_eq n number ≡ b → cond b (Some i) (place n) ≡ option_or (place n) (cond b (Some i) None)
      by_test true same = put (place n) (ap (λ (m : ℕ). is_some (place m)) (eqb-true n number same) ∙ missing)
      by_test false other = alone (place n)
