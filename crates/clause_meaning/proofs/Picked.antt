-- Components and values with the same numbers.
use Rattle.std.proofs.Common.{◌≡◌, ◌+◌, ℕ, zero, suc, List, [], ◌∷◌, ◌++◌, drop, Bool, true, false, ◌&&◌, cond, if◌then◌else◌, Option, Some, None, refl, ap, ◌∙◌, arith}
use Rattle.std.specs.Prelude.{filter, filter_map, slice_get}
use Rattle.std.specs.List.{AllZip, cons_option}
use Rattle.vtl_values.specs.declared.structure.Component.{Component}
use Rattle.data_set_trees.specs.clauses.Frames.{numbers_from}

-- ---- lists that agree place by place

abbrev pub Agree : {A B : Type 0} → (A → B → Type 0) → Option A → Option B → Type 0
Agree F (Some x) (Some y) = F x y
Agree F None None = Unit {0}
Agree F _ _ = ⊥

agree-at : {A B : Type 0} (F : A → B → Type 0) (xs : List A) (ys : List B) (n : ℕ) → AllZip F xs ys → Agree F (slice_get xs n) (slice_get ys n)
agree-at F [] [] n h = tt
agree-at F [] (y ∷ ys) n h = absurd h
agree-at F (x ∷ xs) [] n h = absurd h
agree-at F (x ∷ xs) (y ∷ ys) zero h = h.0
agree-at F (x ∷ xs) (y ∷ ys) (suc n) h = agree-at F xs ys n h.1

one_more : {A B : Type 0} (F : A → B → Type 0) (o : Option A) (p : Option B) (xs : List A) (ys : List B) → Agree F o p → AllZip F xs ys → AllZip F (cons_option o xs) (cons_option p ys)
one_more F (Some x) (Some y) xs ys h i = (h, i)
one_more F None None xs ys h i = i
one_more F (Some x) None xs ys h i = absurd h
one_more F None (Some y) xs ys h i = absurd h

pub AllZip-picked : {A B : Type 0} (F : A → B → Type 0) (ns : List ℕ) (xs : List A) (ys : List B) → AllZip F xs ys → AllZip F (filter_map (slice_get xs) ns) (filter_map (slice_get ys) ns)
AllZip-picked F [] xs ys h = tt
AllZip-picked F (n ∷ ns) xs ys h = one_more F (slice_get xs n) (slice_get ys n) _ _ (agree-at F xs ys n h) (AllZip-picked F ns xs ys h)

pub AllZip-++ : {A B : Type 0} (F : A → B → Type 0) (xs us : List A) (ys vs : List B) → AllZip F xs ys → AllZip F us vs → AllZip F (xs ++ us) (ys ++ vs)
AllZip-++ F [] us [] vs h i = i
AllZip-++ F [] us (y ∷ ys) vs h i = absurd h
AllZip-++ F (x ∷ xs) us [] vs h i = absurd h
AllZip-++ F (x ∷ xs) us (y ∷ ys) vs h i = (h.0, AllZip-++ F xs us ys vs h.1 i)

pub AllZip-weaker : {A B : Type 0} (F G : A → B → Type 0) → ((x : A) (y : B) → F x y → G x y) → (xs : List A) (ys : List B) → AllZip F xs ys → AllZip G xs ys
AllZip-weaker F G w [] [] h = h
AllZip-weaker F G w [] (y ∷ ys) h = absurd h
AllZip-weaker F G w (x ∷ xs) [] h = absurd h
AllZip-weaker F G w (x ∷ xs) (y ∷ ys) h = (w x y h.0, AllZip-weaker F G w xs ys h.1)

-- ---- the components that pass

pub head-at : {A : Type 0} (n : ℕ) (xs : List A) (c : A) (cs : List A) → drop n xs ≡ c ∷ cs → slice_get xs n ≡ Some c
head-at zero [] c cs h = cc
head-at zero (x ∷ xs) c cs h = let same : x ≡ c = cc in ap Some same
head-at (suc n) [] c cs h = cc
head-at (suc n) (x ∷ xs) c cs h = head-at n xs c cs h

pub tail-at : {A : Type 0} (n : ℕ) (xs : List A) (c : A) (cs : List A) → drop n xs ≡ c ∷ cs → drop (n + 1) xs ≡ cs
tail-at zero [] c cs h = cc
tail-at zero (x ∷ xs) c cs h = let same : xs ≡ cs = cc in same
tail-at (suc n) [] c cs h = cc
tail-at (suc n) (x ∷ xs) c cs h = let next : suc n + 1 ≡ suc (n + 1) = omega arith in rw next (tail-at n xs c cs h)

module _ (xs : List Component) where
  -- of the components that pass, those that pass another test
  pub filter-picked : (r : Component → Bool) (q : ℕ → Component → Bool) (n : ℕ) (cs : List Component) → drop n xs ≡ cs → filter r (filter_map (slice_get xs) (numbers_from q n cs)) ≡ filter_map (slice_get xs) (numbers_from (λ m c. r c && q m c) n cs)
  filter-picked r q n [] h = refl
  filter-picked r q n (c ∷ cs) h = by_tests (r c) (q n c) (numbers_from q (n + 1) cs) (numbers_from (λ m d. r d && q m d) (n + 1) cs) refl (head-at n xs c cs h) (filter-picked r q (n + 1) cs (tail-at n xs c cs h))
    where
      by_tests : (b p : Bool) (ns ms : List ℕ) → r c ≡ b → slice_get xs n ≡ Some c → filter r (filter_map (slice_get xs) ns) ≡ filter_map (slice_get xs) ms → filter r (filter_map (slice_get xs) (if p then n ∷ ns else ns)) ≡ filter_map (slice_get xs) (if b && p then n ∷ ms else ms)
      by_tests true true ns ms pass here later = rw (here, pass) (ap (λ (ds : List Component). c ∷ ds) later)
      by_tests false true ns ms pass here later = rw (here, pass) later
      by_tests true false ns ms pass here later = later
      by_tests false false ns ms pass here later = later

  -- the numbers go by what the test says of the components there
  pub numbers-same : (p q : ℕ → Component → Bool) (n : ℕ) (cs : List Component) → drop n xs ≡ cs → ((m : ℕ) (c : Component) → slice_get xs m ≡ Some c → p m c ≡ q m c) → numbers_from p n cs ≡ numbers_from q n cs
  numbers-same p q n [] h same = refl
  numbers-same p q n (c ∷ cs) h same =
      ap (λ b. if b then n ∷ numbers_from p (n + 1) cs else numbers_from p (n + 1) cs) (same n c (head-at n xs c cs h))
      ∙ ap (λ ns. if q n c then n ∷ ns else ns) (numbers-same p q (n + 1) cs (tail-at n xs c cs h) same)

  -- the components that pass a test of their own
  pub picked-filter : (r : Component → Bool) (n : ℕ) (cs : List Component) → drop n xs ≡ cs → filter_map (slice_get xs) (numbers_from (λ m. r) n cs) ≡ filter r cs
  picked-filter r n [] h = refl
  picked-filter r n (c ∷ cs) h = by_test (r c) (numbers_from (λ m. r) (n + 1) cs) (head-at n xs c cs h) (picked-filter r (n + 1) cs (tail-at n xs c cs h))
    where
      by_test : (b : Bool) (ns : List ℕ) → slice_get xs n ≡ Some c → filter_map (slice_get xs) ns ≡ filter r cs → filter_map (slice_get xs) (if b then n ∷ ns else ns) ≡ cond b (c ∷ filter r cs) (filter r cs)
      by_test true ns here later = rw here (ap (λ (ds : List Component). c ∷ ds) later)
      by_test false ns here later = later

  -- values fit the components that pass, where each does that has the number of one
  pub AllZip-numbers : {B : Type 0} (F : Component → B → Type 0) (ys : List B) (q : ℕ → Component → Bool) (n : ℕ) (cs : List Component) → drop n xs ≡ cs → ((m : ℕ) (c : Component) → slice_get xs m ≡ Some c → q m c ≡ true → Agree F (Some c) (slice_get ys m)) → AllZip F (filter_map (slice_get xs) (numbers_from q n cs)) (filter_map (slice_get ys) (numbers_from q n cs))
  AllZip-numbers F ys q n [] h fit = tt
  AllZip-numbers F ys q n (c ∷ cs) h fit = by_test (q n c) (numbers_from q (n + 1) cs) (head-at n xs c cs h) (fit n c (head-at n xs c cs h)) (AllZip-numbers F ys q (n + 1) cs (tail-at n xs c cs h) fit)
    where
      by_test : (b : Bool) (ns : List ℕ) → slice_get xs n ≡ Some c → (b ≡ true → Agree F (Some c) (slice_get ys n)) → AllZip F (filter_map (slice_get xs) ns) (filter_map (slice_get ys) ns) → AllZip F (filter_map (slice_get xs) (if b then n ∷ ns else ns)) (filter_map (slice_get ys) (if b then n ∷ ns else ns))
      by_test true ns here own later = rw here (one_more F (Some c) (slice_get ys n) (filter_map (slice_get xs) ns) (filter_map (slice_get ys) ns) (own refl) later)
      by_test false ns here own later = later
