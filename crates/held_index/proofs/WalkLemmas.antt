-- Stretches of lists in order.
use Rattle.std.proofs.Common.{◌≡◌, ℕ, zero, suc, ◌+◌, ◌-◌, ◌<◌, ◌≤◌, List, [], ◌∷◌, filter, take, drop, length, Bool, true, false, not, ◌&&◌, cond, Option, Some, None, refl, ap, ◌∙◌, inl, inr, arith}
use Rattle.std.specs.List.{AllByRecursion, slice_get, prefix_len, last_or}
use Rattle.std.specs.declared.cmp.Ordering.{Ordering}
use Rattle.std.specs.declared.cmp.Ordering.TheVariants.{Less}
use Rattle.std.proofs.lemmas.Bool.{both_ways, cases_Bool}
use Rattle.ordered_tree.specs.Lists.{NonePass, Parted, stretch}
use Rattle.ordered_tree.specs.Orders.{Ascends}
use Rattle.ordered_tree.proofs.Stretches.{length-stretch}

up : (n : ℕ) → 1 + n ≡ suc n
up n = omega arith

-- ---- what is up to one place and not up to another is a stretch

drop_none : {X : Type 0} (n : ℕ) → drop {A = X} n [] ≡ []
drop_none zero = refl
drop_none (suc n) = refl

module _ {X : Type 0} (p q : X → Bool) where
  abbrev pub is_between : X → Bool
  is_between x = q x && not (p x)

  none_between : (xs : List X) → NonePass q xs → filter is_between xs ≡ []
  none_between [] h = refl
  none_between (x ∷ xs) h = rw h.0 (none_between xs h.1)

  prefix_none : (xs : List X) → NonePass p xs → prefix_len p xs ≡ 0
  prefix_none [] h = refl
  prefix_none (x ∷ xs) h = rw h.0 refl

  none_parted : (xs : List X) → NonePass p xs → Parted p xs
  none_parted [] h = tt
  none_parted (x ∷ xs) h = ((λ e. absurd (both_ways (p x) h.0 e)), (λ e. h.1))

  pub stretch_between : (xs : List X) → Parted p xs → Parted q xs → stretch (prefix_len p xs) (prefix_len q xs) xs ≡ filter is_between xs
  stretch_between [] h k = refl
  stretch_between (x ∷ xs) h k = elim (cases_Bool (p x)) [
    | inl a ↦ elim (cases_Bool (q x)) [
      | inl b ↦ rw (a, b, up, up) (stretch_between xs (h.0 a) (k.0 b))
      | inr b ↦ rw (a, b, none_between xs (k.1 b)) (drop_none (1 + prefix_len p xs))
    ]
    | inr a ↦ elim (cases_Bool (q x)) [
      | inl b ↦
          let later : stretch (prefix_len p xs) (prefix_len q xs) xs ≡ filter is_between xs = stretch_between xs (none_parted xs (h.1 a)) (k.0 b) in
          let none : prefix_len p xs ≡ 0 = prefix_none xs (h.1 a) in
          rw (a, b, up) (ap (λ (t : List X). x ∷ t) (rw none at later))
      | inr b ↦ rw (a, b, none_between xs (k.1 b)) refl
    ]
  ]

-- a test that passes more goes further
pub prefix_len-further : {X : Type 0} (p q : X → Bool) → ((x : X) → p x ≡ true → q x ≡ true) → (xs : List X) → prefix_len p xs ≤ prefix_len q xs
prefix_len-further p q f [] = omega arith
prefix_len-further p q f (x ∷ xs) = elim (cases_Bool (p x)) [
  | inl a ↦ let b = f x a in rw (a, b) (omega (arith, prefix_len-further p q f xs))
  | inr a ↦ rw a (omega arith)
]

pub prefix_len-within : {X : Type 0} (p : X → Bool) (xs : List X) → prefix_len p xs ≤ length xs
prefix_len-within p [] = omega arith
prefix_len-within p (x ∷ xs) = elim (cases_Bool (p x)) [
  | inl a ↦ rw a (omega (arith, prefix_len-within p xs))
  | inr a ↦ rw a (omega arith)
]

-- ---- what stands in a stretch

slice_get-drop : {X : Type 0} (n i : ℕ) (xs : List X) → slice_get (drop n xs) i ≡ slice_get xs (n + i)
slice_get-drop zero i xs = let e : 0 + i ≡ i = omega arith in rw e refl
slice_get-drop (suc n) i [] = refl
slice_get-drop (suc n) i (x ∷ xs) = let e : suc n + i ≡ suc (n + i) = omega arith in rw e (slice_get-drop n i xs)

slice_get-take : {X : Type 0} (n i : ℕ) (xs : List X) → i < n → slice_get (take n xs) i ≡ slice_get xs i
slice_get-take zero i xs h = absurd (omega arith)
slice_get-take (suc n) i [] h = refl
slice_get-take (suc n) zero (x ∷ xs) h = refl
slice_get-take (suc n) (suc i) (x ∷ xs) h = slice_get-take n i xs (omega arith)

slice_get-take_past : {X : Type 0} (n i : ℕ) (xs : List X) → n ≤ i → slice_get (take n xs) i ≡ None
slice_get-take_past zero i xs h = refl
slice_get-take_past (suc n) i [] h = refl
slice_get-take_past (suc n) zero (x ∷ xs) h = absurd (omega arith)
slice_get-take_past (suc n) (suc i) (x ∷ xs) h = slice_get-take_past n i xs (omega arith)

pub slice_get-stretch : {X : Type 0} (from to n : ℕ) (xs : List X) → from + n < to → slice_get (stretch from to xs) n ≡ slice_get xs (from + n)
slice_get-stretch from to n xs h = slice_get-drop from n (take to xs) ∙ slice_get-take to (from + n) xs h

pub slice_get-stretch_past : {X : Type 0} (from to n : ℕ) (xs : List X) → to ≤ from + n → slice_get (stretch from to xs) n ≡ None
slice_get-stretch_past from to n xs h = slice_get-drop from n (take to xs) ∙ slice_get-take_past to (from + n) xs h

nothing_long : {X : Type 0} (xs : List X) → length xs ≡ 0 → xs ≡ []
nothing_long [] h = refl
nothing_long (x ∷ xs) h = absurd (omega arith)

-- the last of a list
last_or-get : {X : Type 0} (o : Option X) (n : ℕ) (xs : List X) → length xs ≡ suc n → last_or o xs ≡ slice_get xs n
last_or-get o n [] h = absurd (omega arith)
last_or-get o zero (x ∷ []) h = refl
last_or-get o zero (x ∷ (y ∷ ys)) h = absurd (omega arith)
last_or-get o (suc n) (x ∷ xs) h = last_or-get (Some x) n xs (omega arith)

pub last-stretch : {X : Type 0} (from to : ℕ) (xs : List X) → from < to → to ≤ length xs → last_or None (stretch from to xs) ≡ slice_get xs (to - 1)
last-stretch from to xs h k =
    let n = to - from - 1 in
    let size : length (stretch from to xs) ≡ suc n = length-stretch from to xs k ∙ omega arith in
    let place : from + n ≡ to - 1 = omega arith in
    last_or-get None n (stretch from to xs) size ∙ slice_get-stretch from to n xs (omega arith) ∙ ap (slice_get xs) place

pub last-stretch_none : {X : Type 0} (from to : ℕ) (xs : List X) → to ≤ from → to ≤ length xs → last_or None (stretch from to xs) ≡ None
last-stretch_none from to xs h k = ap (last_or None) (nothing_long (stretch from to xs) (length-stretch from to xs k ∙ omega arith))

-- ---- filters

pub filter-same : {X : Type 0} (p q : X → Bool) → ((x : X) → p x ≡ q x) → (xs : List X) → filter p xs ≡ filter q xs
filter-same p q f [] = refl
filter-same p q f (x ∷ xs) = rw (f x, filter-same p q f xs) refl

pub filter-filter : {X : Type 0} (p q : X → Bool) (xs : List X) → filter p (filter q xs) ≡ filter (λ x. q x && p x) xs
filter-filter p q [] = refl
filter-filter {X = X} p q (x ∷ xs) = elim (cases_Bool (q x)) [
  | inl a ↦ rw a (ap (λ (t : List X). cond (p x) (x ∷ t) t) (filter-filter p q xs))
  | inr a ↦ rw a (filter-filter p q xs)
]

-- ---- tests that pass up to some place of a list in order

module _ {X : Type 0} {R : X → X → Ordering} (p : X → Bool) (closed : (x y : X) → R x y ≡ Less → p y ≡ true → p x ≡ true) where
  none_later : (x : X) (xs : List X) → p x ≡ false → AllByRecursion (λ y. R x y ≡ Less) xs → NonePass p xs
  none_later x [] e h = tt
  none_later x (y ∷ ys) e h =
      let fails : p y ≡ false = elim (cases_Bool (p y)) [
        | inl t ↦ absurd (both_ways (p x) e (closed x y h.0 t))
        | inr f ↦ f
      ] in
      (fails, none_later x ys e h.1)

  pub parted_closed : (xs : List X) → Ascends R xs → Parted p xs
  parted_closed [] h = tt
  parted_closed (x ∷ xs) h = ((λ e. parted_closed xs h.1), (λ e. none_later x xs e h.0))
