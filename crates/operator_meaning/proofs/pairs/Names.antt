-- Values by names, where the names of the values are a list.
use Rattle.std.proofs.Common.{◌≡◌, ℕ, suc, List, [], ◌∷◌, length, Bool, true, false, ◌||◌, cond, Option, Some, None, refl, sym, ap, ◌∙◌, arith}
use Rattle.std.specs.Prelude.{filter_map}
use Rattle.std.specs.Option.{is_some}
use Rattle.std.specs.List.{list_any, list_all, cons_option}
use Rattle.std.specs.Cmp.Lexicographic.{nat_list_eq_equiv}
use Rattle.vtl_values.specs.Texts.{same_text}
use Rattle.vtl_values.specs.declared.value.Value.{Value}
use Rattle.vtl_values.proofs.StructureNames.{same_text-Decides}
use Rattle.data_model.proofs.MapLemmas.{neither}
use Rattle.scalar_trees.proofs.typing.Sound.{left, right}

pub same-true : (a b : List ℕ) → same_text a b ≡ true → a ≡ b
same-true a b same = (same_text-Decides a b).0 same

pub same-refl : (a : List ℕ) → same_text a a ≡ true
same-refl a = (same_text-Decides a a).1 refl

-- the value of the first name that is this one
abbrev pub named : List (List ℕ) → List Value → List ℕ → Option Value
named [] vs n = None
named (m ∷ ms) [] n = None
named (m ∷ ms) (v ∷ vs) n = cond (same_text n m) (Some v) (named ms vs n)

-- the values of those names, where the values have these
abbrev pub picked : List (List ℕ) → List (List ℕ) → List Value → List Value
picked ns ms vs = filter_map (named ns vs) ms

-- a name is among those
abbrev pub is_in : List (List ℕ) → List ℕ → Bool
is_in ns n = list_any (same_text n) ns

-- each of the names is among those
abbrev pub are_in : List (List ℕ) → List (List ℕ) → Bool
are_in ns ms = list_all (is_in ns) ms

-- no name stands twice
abbrev pub Apart : List (List ℕ) → Type 0
Apart [] = Unit {0}
Apart (n ∷ ns) = (is_in ns n ≡ false) × Apart ns

-- a name that is there has a value
pub named-there : (ns : List (List ℕ)) (vs : List Value) (n : List ℕ) → length vs ≡ length ns → is_in ns n ≡ true → is_some (named ns vs n) ≡ true
named-there [] vs n long there = cc
named-there (m ∷ ms) [] n long there = absurd (omega (arith, long))
named-there (m ∷ ms) (v ∷ vs) n long there = by_test (same_text n m) (named-there ms vs n (omega (arith, long))) there
  where
    by_test : (b : Bool) → (is_in ms n ≡ true → is_some (named ms vs n) ≡ true) → (b || is_in ms n) ≡ true → is_some (cond b (Some v) (named ms vs n)) ≡ true
    by_test true later h = refl
    by_test false later h = later h

-- each name has a value
abbrev pub are_there : List (List ℕ) → List Value → List (List ℕ) → Bool
are_there ns vs ms = list_all (λ m. is_some (named ns vs m)) ms

pub all-there : (ns : List (List ℕ)) (vs : List Value) (ms : List (List ℕ)) → length vs ≡ length ns → are_in ns ms ≡ true → are_there ns vs ms ≡ true
all-there ns vs [] long there = refl
all-there ns vs (m ∷ ms) long there =
    rw (named-there ns vs m long (left (is_in ns m) (are_in ns ms) there)) (all-there ns vs ms long (right (is_in ns m) (are_in ns ms) there))

-- then as many are picked
pub length-picked : (ns : List (List ℕ)) (vs : List Value) (ms : List (List ℕ)) → are_there ns vs ms ≡ true → length (picked ns ms vs) ≡ length ms
length-picked ns vs [] h = refl
length-picked ns vs (m ∷ ms) h = by_value (named ns vs m) (length-picked ns vs ms (right (is_some (named ns vs m)) (are_there ns vs ms) h)) (left (is_some (named ns vs m)) (are_there ns vs ms) h)
  where
    by_value : (o : Option Value) → length (picked ns ms vs) ≡ length ms → is_some o ≡ true → length (cons_option o (picked ns ms vs)) ≡ suc (length ms)
    by_value None later i = cc
    by_value (Some v) later i = ap suc later

-- what is picked has the values of its names
pub named-picked : (ns : List (List ℕ)) (vs : List Value) (ms : List (List ℕ)) (n : List ℕ) → are_there ns vs ms ≡ true → is_in ms n ≡ true → named ms (picked ns ms vs) n ≡ named ns vs n
named-picked ns vs [] n h there = cc
named-picked ns vs (m ∷ ms) n h there =
    by_value (named-picked ns vs ms n (right (is_some (named ns vs m)) (are_there ns vs ms) h)) (named ns vs m) refl (left (is_some (named ns vs m)) (are_there ns vs ms) h)
  where
    by_test : (is_in ms n ≡ true → named ms (picked ns ms vs) n ≡ named ns vs n) → (v : Value) → named ns vs m ≡ Some v → (b : Bool) → same_text n m ≡ b → (b || is_in ms n) ≡ true → cond b (Some v) (named ms (picked ns ms vs) n) ≡ named ns vs n
    by_test later v is true same i = sym (ap (named ns vs) (same-true n m same) ∙ is)
    by_test later v is false same i = later i

    by_value : (is_in ms n ≡ true → named ms (picked ns ms vs) n ≡ named ns vs n) → (o : Option Value) → named ns vs m ≡ o → is_some o ≡ true → named (m ∷ ms) (cons_option o (picked ns ms vs)) n ≡ named ns vs n
    by_value later None is i = cc
    by_value later (Some v) is i = by_test later v is (same_text n m) refl there

-- so picking of what was picked is picking at once
pub picked-picked : (ns : List (List ℕ)) (vs : List Value) (ms ks : List (List ℕ)) → are_there ns vs ms ≡ true → are_in ms ks ≡ true → picked ms ks (picked ns ms vs) ≡ picked ns ks vs
picked-picked ns vs ms [] h there = refl
picked-picked ns vs ms (k ∷ ks) h there =
    λ i. cons_option (named-picked ns vs ms k h (left (is_in ms k) (are_in ms ks) there) i) (picked-picked ns vs ms ks h (right (is_in ms k) (are_in ms ks) there) i)

-- a name that isn't among the others is passed
picked-later : (n : List ℕ) (v : Value) (ns : List (List ℕ)) (vs : List Value) (ms : List (List ℕ)) → is_in ms n ≡ false → picked (n ∷ ns) ms (v ∷ vs) ≡ picked ns ms vs
picked-later n v ns vs [] apart = refl
picked-later n v ns vs (m ∷ ms) apart =
    let both = neither (same_text n m) (is_in ms n) apart in
    let other : same_text m n ≡ false = nat_list_eq_equiv.symm m n ∙ both.0 in
    rw other (ap (cons_option (named ns vs m)) (picked-later n v ns vs ms both.1))

-- all are picked in their order
pub picked-all : (ns : List (List ℕ)) (vs : List Value) → Apart ns → length vs ≡ length ns → picked ns ns vs ≡ vs
picked-all [] [] apart long = refl
picked-all [] (v ∷ vs) apart long = absurd (omega (arith, long))
picked-all (n ∷ ns) [] apart long = absurd (omega (arith, long))
picked-all (n ∷ ns) (v ∷ vs) apart long =
    rw (same-refl n) (ap (λ (us : List Value). v ∷ us) (picked-later n v ns vs ns apart.0 ∙ picked-all ns vs apart.1 (omega (arith, long))))

-- each name of those is one of these
abbrev pub Among : List (List ℕ) → List (List ℕ) → Type 0
Among ns ms = (n : List ℕ) → is_in ms n ≡ true → is_in ns n ≡ true

among-each : (ns ms ks : List (List ℕ)) → Among ns ms → are_in ms ks ≡ true → are_in ns ks ≡ true
among-each ns ms [] among h = refl
among-each ns ms (k ∷ ks) among h = rw (among k (left (is_in ms k) (are_in ms ks) h)) (among-each ns ms ks among (right (is_in ms k) (are_in ms ks) h))

pub either-left : (a b : Bool) → a ≡ true → (a || b) ≡ true
either-left true b h = refl
either-left false b h = cc

pub either-right : (a b : Bool) → b ≡ true → (a || b) ≡ true
either-right true b h = refl
either-right false b h = h

all-in : (ns : List (List ℕ)) → are_in ns ns ≡ true
all-in [] = refl
all-in (n ∷ ns) = rw (same-refl n) (among-each (n ∷ ns) ns ns (λ k h. either-right (same_text k n) (is_in ns k) h) (all-in ns))

pub among-in : (ns ms : List (List ℕ)) → Among ns ms → are_in ns ms ≡ true
among-in ns ms among = among-each ns ms ms among (all-in ms)

-- names of the result, of which each stands for one of those from which values are picked
module _ (ns ms : List (List ℕ)) (vs : List Value) (long : length vs ≡ length ns) (of_them : Among ns ms) where
  there : are_there ns vs ms ≡ true
  there = all-there ns vs ms long (among-in ns ms of_them)

  pub length-among : length (picked ns ms vs) ≡ length ms
  length-among = length-picked ns vs ms there

  pub picked-through : (ks : List (List ℕ)) → Among ms ks → picked ms ks (picked ns ms vs) ≡ picked ns ks vs
  picked-through ks all = picked-picked ns vs ms ks there (among-in ms ks all)

  pub picked-back : Apart ns → Among ms ns → picked ms ns (picked ns ms vs) ≡ vs
  picked-back apart back = picked-through ns back ∙ picked-all ns vs apart long
