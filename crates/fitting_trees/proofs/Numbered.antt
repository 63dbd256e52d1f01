-- Components by their numbers: what holds of those that are picked.
use Rattle.std.proofs.Common.{◌≡◌, refl, ℕ, zero, suc, ◌+◌, Bool, true, false, not, ◌||◌, List, [], ◌∷◌, Option, Some, None, ap, sym, subst, if◌then◌else◌, arith}
use Rattle.std.specs.Prelude.{is_some, slice_get}
use Rattle.std.specs.Option.{option_map_or}
use Rattle.std.specs.List.{list_all, filter_map, cons_option}
use Rattle.vtl_values.specs.declared.kind.Kind.{Kind}
use Rattle.vtl_values.specs.declared.kind.Kind.TheVariants.{Integer, Number, Text, Truth}
use Rattle.vtl_values.specs.declared.structure.Component.{Component}
use Rattle.scalar_trees.specs.Kinds.{ANY, NUMERIC, agreed}
use Rattle.scalar_trees.proofs.typing.Sound.{both, left, right}
use Rattle.data_set_trees.specs.clauses.Frames.{numbers_from}

-- what is asked of those that pass a test holds of one that passes it
pub asked : (a b : Bool) → a ≡ true → (not a || b) ≡ true → b ≡ true
asked true b h i = i
asked false b h i = cc

-- what is made of each holds where it is made of any
pub made-all : {A B : Type 0} (f : A → Option B) (q : B → Bool) (xs : List A) → list_all (λ x. option_map_or q (f x) true) xs ≡ true → list_all q (filter_map f xs) ≡ true
made-all f q [] h = refl
made-all {A = A} {B = B} f q (x ∷ xs) h =
    let rest = list_all (λ y. option_map_or q (f y) true) xs in
    by_value (f x) (left (option_map_or q (f x) true) rest h) (made-all f q xs (right (option_map_or q (f x) true) rest h))
  where
    by_value : (o : Option B) → option_map_or q o true ≡ true → list_all q (filter_map f xs) ≡ true → list_all q (cons_option o (filter_map f xs)) ≡ true
    by_value None own others = others
    by_value (Some y) own others = both (q y) (list_all q (filter_map f xs)) own others

-- what holds of everything holds of all in a list
pub always-all : {A : Type 0} (p : A → Bool) → ((x : A) → p x ≡ true) → (xs : List A) → list_all p xs ≡ true
always-all p always [] = refl
always-all p always (x ∷ xs) = both (p x) (list_all p xs) (always x) (always-all p always xs)

-- what holds of all holds of the one with this number
pub one-of-all : (q : Component → Bool) (cs : List Component) (n : ℕ) (c : Component) → list_all q cs ≡ true → slice_get cs n ≡ Some c → q c ≡ true
one-of-all q [] n c all there = cc
one-of-all q (d ∷ ds) zero c all there = let same : d ≡ c = cc in subst (λ (x : Component). q x ≡ true) same (left (q d) (list_all q ds) all)
one-of-all q (d ∷ ds) (suc n) c all there = one-of-all q ds n c (right (q d) (list_all q ds) all) there

numbers-from : (p : ℕ → Bool) (passes : ℕ → Component → Bool) (all : List Component) → ((n : ℕ) (c : Component) → slice_get all n ≡ Some c → passes n c ≡ true → p n ≡ true)
    → (k : ℕ) (cs : List Component) → ((n : ℕ) → slice_get cs n ≡ slice_get all (k + n)) → list_all p (numbers_from passes k cs) ≡ true
numbers-from p passes all holds k [] at = refl
numbers-from p passes all holds k (c ∷ cs) at =
    let here : slice_get all k ≡ Some c = sym (subst (λ (m : ℕ). Some c ≡ slice_get all m) (omega arith) (at zero)) in
    let later : (n : ℕ) → slice_get cs n ≡ slice_get all ((k + 1) + n) = λ n. subst (λ (m : ℕ). slice_get cs n ≡ slice_get all m) (omega arith) (at (suc n)) in
    by_test (passes k c) refl here (numbers-from p passes all holds (k + 1) cs later)
  where
    by_test : (b : Bool) → passes k c ≡ b → slice_get all k ≡ Some c → list_all p (numbers_from passes (k + 1) cs) ≡ true → list_all p (if b then k ∷ numbers_from passes (k + 1) cs else numbers_from passes (k + 1) cs) ≡ true
    by_test true is here others = both (p k) (list_all p (numbers_from passes (k + 1) cs)) (holds k c here is) others
    by_test false is here others = others

-- what holds of the number of each component that passes holds of all those numbers
pub numbers-all : (p : ℕ → Bool) (passes : ℕ → Component → Bool) (cs : List Component) → ((n : ℕ) (c : Component) → slice_get cs n ≡ Some c → passes n c ≡ true → p n ≡ true) → list_all p (numbers_from passes 0 cs) ≡ true
numbers-all p passes cs holds = numbers-from p passes cs holds 0 cs (λ n. ap (slice_get cs) (omega arith))

-- ---- kinds that are taken

-- a component of a kind that is taken stands at its own kind
abbrev pub TakesOwn : List Kind → Type 0
TakesOwn takes = (k : Kind) → is_some (agreed takes (Some k ∷ [])) ≡ true → agreed takes (Some k ∷ []) ≡ Some k

pub any-own : TakesOwn ANY
any-own Integer h = refl
any-own Number h = refl
any-own Text h = refl
any-own Truth h = refl

pub numeric-own : TakesOwn NUMERIC
numeric-own Integer h = refl
numeric-own Number h = refl
numeric-own Text h = cc
numeric-own Truth h = cc
