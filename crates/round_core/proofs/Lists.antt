-- Lists.
use Rattle.std.proofs.Common.{◌≡◌, ◌≢◌, inl, inr, ℕ, zero, suc, ◌+◌, ◌<◌, ◌≤◌, List, [], ◌∷◌, ◌++◌, length, get_or, Some, sym, ◌∙◌, ap, refl, arith, subst, set}
use Rattle.std.specs.List.{All, AllZip, slice_get}
use Rattle.std.proofs.lemmas.Bool.{cases_eq}
use Rattle.std.proofs.lemmas.List.{get_or-set_same, get_or-set_other, length-set, get_or_push, get_or_append_left}
use Rattle.std.proofs.lemmas.List.Elements.{All-head, All-tail}

-- an element of a list that is not empty
pub some_of : {A : Type 0} (xs : List A) (i : ℕ) → i < length xs → A
some_of [] i l = absurd (omega (arith, l))
some_of (x ∷ xs) i l = x

-- what holds in other places stays, and in this place something else holds
pub each_set : {A : Type 0} (P Q : ℕ → A → Type 0) (xs : List A) (i : ℕ) (x : A) → ((j : ℕ) (d : A) → j < length xs → P j (get_or xs j d)) → ((j : ℕ) (y : A) → j < length xs → j ≢ i → P j y → Q j y) → Q i x → (j : ℕ) (d : A) → j < length (set xs i x) → Q j (get_or (set xs i x) j d)
each_set P Q xs i x h other this j d l =
    let m : j < length xs = omega (arith, l, length-set xs i x) in
    elim (cases_eq j i) [
      | inl same ↦ subst (λ (q : ℕ). Q q (get_or (set xs i x) q d)) (sym same) (subst (λ y. Q i y) (sym (get_or-set_same xs i x d (omega (arith, m, same)))) this)
      | inr apart ↦ subst (λ y. Q j y) (sym (get_or-set_other xs i j x d apart)) (other j (get_or xs j d) m apart (h j d m))
    ]

-- pair by pair, where something more holds of the second ones
pub AllZip-with : {A B : Type 0} (R T : A → B → Type 0) (Q : B → Type 0) (xs : List A) (ys : List B) → AllZip R xs ys → All Q ys → ((x : A) (y : B) → R x y → Q y → T x y) → AllZip T xs ys
AllZip-with R T Q [] [] h q f = tt
AllZip-with R T Q [] (y ∷ ys) h q f = absurd h
AllZip-with R T Q (x ∷ xs) [] h q f = absurd h
AllZip-with R T Q (x ∷ xs) (y ∷ ys) h q f = (f x y h.0 (All-head Q y ys q), AllZip-with R T Q xs ys h.1 (All-tail Q y ys q) f)

pub AllZip-weaker : {A B : Type 0} (R T : A → B → Type 0) (xs : List A) (ys : List B) → AllZip R xs ys → ((x : A) (y : B) → R x y → T x y) → AllZip T xs ys
AllZip-weaker R T [] [] h f = tt
AllZip-weaker R T [] (y ∷ ys) h f = absurd h
AllZip-weaker R T (x ∷ xs) [] h f = absurd h
AllZip-weaker R T (x ∷ xs) (y ∷ ys) h f = (f x y h.0, AllZip-weaker R T xs ys h.1 f)

pub AllZip-length : {A B : Type 0} (R : A → B → Type 0) (xs : List A) (ys : List B) → AllZip R xs ys → length xs ≡ length ys
AllZip-length R [] [] h = refl
AllZip-length R [] (y ∷ ys) h = absurd h
AllZip-length R (x ∷ xs) [] h = absurd h
AllZip-length R (x ∷ xs) (y ∷ ys) h = ap suc (AllZip-length R xs ys h.1)

pub AllZip-at : {A B : Type 0} (R : A → B → Type 0) (xs : List A) (ys : List B) → AllZip R xs ys → (i : ℕ) (d : A) (e : B) → i < length xs → R (get_or xs i d) (get_or ys i e)
AllZip-at R [] [] h i d e l = absurd (omega (arith, l))
AllZip-at R [] (y ∷ ys) h i d e l = absurd h
AllZip-at R (x ∷ xs) [] h i d e l = absurd h
AllZip-at R (x ∷ xs) (y ∷ ys) h zero d e l = h.0
AllZip-at R (x ∷ xs) (y ∷ ys) h (suc i) d e l = AllZip-at R xs ys h.1 i d e (omega (arith, l))

-- with another element in one place
pub AllZip-set : {A B : Type 0} (R T : A → B → Type 0) (xs : List A) (ys : List B) (k : ℕ) (x : A) → AllZip R xs ys
    → ((j : ℕ) (y : B) (z : A) → j ≢ k → slice_get ys j ≡ Some y → R z y → T z y) → ((y : B) → slice_get ys k ≡ Some y → T x y) → AllZip T (set xs k x) ys
AllZip-set R T [] [] k x h other this = tt
AllZip-set R T [] (y ∷ ys) k x h other this = absurd h
AllZip-set R T (z ∷ xs) [] k x h other this = absurd h
AllZip-set R T (z ∷ xs) (y ∷ ys) zero x h other this = (this y refl, AllZip-places R T xs ys h.1 (λ j b a e r. other (suc j) b a (λ q. absurd (omega (arith, q))) e r))
  where
    AllZip-places : {A B : Type 0} (R T : A → B → Type 0) (xs : List A) (ys : List B) → AllZip R xs ys → ((j : ℕ) (y : B) (z : A) → slice_get ys j ≡ Some y → R z y → T z y) → AllZip T xs ys
    AllZip-places R T [] [] h f = tt
    AllZip-places R T [] (y ∷ ys) h f = absurd h
    AllZip-places R T (x ∷ xs) [] h f = absurd h
    AllZip-places R T (x ∷ xs) (y ∷ ys) h f = (f zero y x refl h.0, AllZip-places R T xs ys h.1 (λ j b a e r. f (suc j) b a e r))
AllZip-set R T (z ∷ xs) (y ∷ ys) (suc k) x h other this = (other zero y z (λ q. absurd (omega (arith, q))) refl h.0, AllZip-set R T xs ys k x h.1 (λ j b a ne e r. other (suc j) b a (λ q. ne (omega (arith, q))) e r) (λ b e. this b e))

-- an element that is there is the same whatever else is given
pub get_or_any : {A : Type 0} (xs : List A) (i : ℕ) (d e : A) → i < length xs → get_or xs i d ≡ get_or xs i e
get_or_any [] i d e l = absurd (omega (arith, l))
get_or_any (x ∷ xs) zero d e l = refl
get_or_any (x ∷ xs) (suc i) d e l = get_or_any xs i d e (omega (arith, l))

-- one more, beside the next element of another list
pub each_push : {A B : Type 0} (R : A → B → Type 0) (xs : List A) (ys : List B) (n : ℕ) (x : A) → length xs ≡ n → ((k : ℕ) (d : A) (e : B) → k < n → R (get_or xs k d) (get_or ys k e)) → ((e : B) → R x (get_or ys n e)) → (k : ℕ) (d : A) (e : B) → k < n + 1 → R (get_or (xs ++ x ∷ []) k d) (get_or ys k e)
each_push R xs ys n x long h this k d e l = elim (cases_eq k n) [
  | inl same ↦
      subst (λ (q : ℕ). R (get_or (xs ++ x ∷ []) q d) (get_or ys q e)) (sym same) (subst (λ z. R z (get_or ys n e)) (sym (get_or_push xs x d n long)) (this e))
  | inr other ↦
      let m : k < n = grind (arith, l, other) in
      subst (λ z. R z (get_or ys k e)) (sym (get_or_append_left xs (x ∷ []) d k (omega (arith, m, long)))) (h k d e m)
]

pub each_push_one : {A : Type 0} (P : ℕ → A → Type 0) (xs : List A) (n : ℕ) (x : A) → length xs ≡ n → ((k : ℕ) (d : A) → k < n → P k (get_or xs k d)) → P n x → (k : ℕ) (d : A) → k < n + 1 → P k (get_or (xs ++ x ∷ []) k d)
each_push_one P xs n x long h this k d l = elim (cases_eq k n) [
  | inl same ↦ subst (λ (q : ℕ). P q (get_or (xs ++ x ∷ []) q d)) (sym same) (subst (λ z. P n z) (sym (get_or_push xs x d n long)) this)
  | inr other ↦
      let m : k < n = grind (arith, l, other) in
      subst (λ z. P k z) (sym (get_or_append_left xs (x ∷ []) d k (omega (arith, m, long)))) (h k d m)
]

-- one more element is changed; those below it were, and those above stay
pub record Below {A : Type 0} (R : A → A → Type 0) (olds news : List A) (i : ℕ) : Type 0 where
  pub many : length news ≡ length olds
  pub changed : (j : ℕ) (d : A) → j < i → R (get_or olds j d) (get_or news j d)
  pub stays : (j : ℕ) (d : A) → i ≤ j → get_or news j d ≡ get_or olds j d

pub below_set : {A : Type 0} (R : A → A → Type 0) (olds news : List A) (i : ℕ) (x : A) → Below R olds news i → i < length news → ((d : A) → R (get_or news i d) x) → Below R olds (set news i x) (i + 1)
below_set R olds news i x h l this = record {
  many = length-set news i x ∙ h.many;
  changed = λ j d m. elim (cases_eq j i) [
    | inl same ↦
        subst (λ (q : ℕ). R (get_or olds q d) (get_or (set news i x) q d)) (sym same)
        (subst (λ y. R y (get_or (set news i x) i d)) (h.stays i d (omega arith)) (subst (λ y. R (get_or news i d) y) (sym (get_or-set_same news i x d l)) (this d)))
    | inr other ↦ subst (λ y. R (get_or olds j d) y) (sym (get_or-set_other news i j x d other)) (h.changed j d (grind (arith, m, other)))
  ];
  stays = λ j d m. get_or-set_other news i j x d (λ e. absurd (omega (arith, e, m))) ∙ h.stays j d (omega (arith, m));
}
