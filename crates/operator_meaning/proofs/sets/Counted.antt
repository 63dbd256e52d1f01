-- Names that are counted.
use Rattle.std.proofs.Common.{◌≡◌, ℕ, suc, ◌≤◌, List, [], ◌∷◌, length, Bool, true, false, ◌||◌, cond, refl, sym, ap, subst, arith}
use Rattle.vtl_values.specs.Texts.{same_text}
use Rattle.data_model.proofs.DeltaLemmas.{contradicted}
use Rattle.data_model.proofs.MapLemmas.{neither}
use Rattle.scalar_trees.proofs.typing.Sound.{left, right, both}
use Rattle.operator_meaning.proofs.pairs.Names.{same-true, same-refl, is_in, are_in, Apart, either-left}

-- the names but for the first that is this one
abbrev without : List ℕ → List (List ℕ) → List (List ℕ)
without n [] = []
without n (m ∷ ms) = cond (same_text n m) ms (m ∷ without n ms)

-- it is one name less
one-less : (n : List ℕ) (ms : List (List ℕ)) → is_in ms n ≡ true → suc (length (without n ms)) ≡ length ms
one-less n [] h = cc
one-less n (m ∷ ms) h = by_test (same_text n m) (one-less n ms) h
  where
    by_test : (b : Bool) → (is_in ms n ≡ true → suc (length (without n ms)) ≡ length ms) → (b || is_in ms n) ≡ true → suc (length (cond b ms (m ∷ without n ms))) ≡ suc (length ms)
    by_test true later i = refl
    by_test false later i = ap suc (later i)

-- the others are still there
still-there : (n k : List ℕ) (ms : List (List ℕ)) → same_text k n ≡ false → is_in ms k ≡ true → is_in (without n ms) k ≡ true
still-there n k [] other h = cc
still-there n k (m ∷ ms) other h = by_test (same_text n m) refl (still-there n k ms other) (same_text k m) refl h
  where
    by_test : (b : Bool) → same_text n m ≡ b → (is_in ms k ≡ true → is_in (without n ms) k ≡ true) → (e : Bool) → same_text k m ≡ e → (e || is_in ms k) ≡ true → is_in (cond b ms (m ∷ without n ms)) k ≡ true
    by_test true same later true its i = contradicted (same_text k n) (subst (λ (j : List ℕ). same_text k j ≡ true) (sym (same-true n m same)) its) other
    by_test true same later false its i = i
    by_test false same later true its i = either-left (same_text k m) (is_in (without n ms) k) its
    by_test false same later false its i = rw its (later i)

all-still-there : (n : List ℕ) (ns ms : List (List ℕ)) → is_in ns n ≡ false → are_in ms ns ≡ true → are_in (without n ms) ns ≡ true
all-still-there n [] ms apart h = refl
all-still-there n (k ∷ ks) ms apart h =
    let two = neither (same_text n k) (is_in ks n) apart in
    let other : same_text k n ≡ false = turned two.0 in
    both (is_in (without n ms) k) (are_in (without n ms) ks) (still-there n k ms other (left (is_in ms k) (are_in ms ks) h)) (all-still-there n ks ms two.1 (right (is_in ms k) (are_in ms ks) h))
  where
    turned : same_text n k ≡ false → same_text k n ≡ false
    turned e = by_test (same_text k n) refl
      where
        by_test : (b : Bool) → same_text k n ≡ b → b ≡ false
        by_test true is = contradicted (same_text n k) (subst (λ (j : List ℕ). same_text n j ≡ true) (sym (same-true k n is)) (same-refl n)) e
        by_test false is = refl

-- different names among others are no more than those
pub no-more : (ns ms : List (List ℕ)) → Apart ns → are_in ms ns ≡ true → length ns ≤ length ms
no-more [] ms apart h = omega arith
no-more (n ∷ ns) ms apart h =
    let fewer = no-more ns (without n ms) apart.1 (all-still-there n ns ms apart.0 (right (is_in ms n) (are_in ms ns) h)) in
    let less = one-less n ms (left (is_in ms n) (are_in ms ns) h) in
    omega (arith, fewer, less)

-- and if they are as many, they are all of them
pub all-of-them : (ns ms : List (List ℕ)) → Apart ns → are_in ms ns ≡ true → length ms ≤ length ns → (n : List ℕ) → is_in ms n ≡ true → is_in ns n ≡ true
all-of-them ns ms apart h many n there = by_test (is_in ns n) refl
  where
    by_test : (b : Bool) → is_in ns n ≡ b → b ≡ true
    by_test true e = refl
    by_test false e = let more = no-more (n ∷ ns) ms (e, apart) (both (is_in ms n) (are_in ms ns) there h) in absurd (omega (arith, more, many))
