-- Finite maps. A data set is a `FinMap R X`: from keys, in the order R, to what a point has beside its key.
use Rattle.std.specs.Prelude.{List, [], ◌∷◌, ◌++◌, Option, Some, None, Bool, option_map, option_and_then}
use Rattle.std.specs.Bool.{then_some}
use Rattle.std.specs.Option.{option_or, option_zip}
use Rattle.std.specs.List.{list_any, filter_map}
use Rattle.std.specs.declared.cmp.Ordering.{Ordering}
use Rattle.std.specs.Ordering.{eq_by_cmp}
use Rattle.std.specs.FinMap.{FinMap, empty, get, insert, remove, keys, from_entries}

-- whether a list has the key
abbrev pub is_listed : {K : Type 0} → (K → K → Ordering) → List K → K → Bool
is_listed R ks k = list_any (eq_by_cmp R k) ks

-- the first value that there is
abbrev pub leftmost : {X : Type 0} → List (Option X) → Option X
leftmost [] = None
leftmost (x ∷ xs) = option_or x (leftmost xs)

-- the value, if it passes
abbrev pub if_passes : {X : Type 0} → (X → Bool) → Option X → Option X
if_passes p x = option_and_then (λ y. then_some (p y) y) x

module _ {K : Type 0} {R : K → K → Ordering} where
  -- m, but with this value, or with none, at the key
  abbrev pub put : {X : Type 0} → K → Option X → FinMap R X → FinMap R X
  put k None m = remove m k
  put k (Some x) m = insert m k x

  -- the map that has f at each of these keys, and nothing at any other
  unfoldable pub made_at : {X : Type 0} → List K → (K → Option X) → FinMap R X
  made_at ks f = from_entries (filter_map (λ k. option_map (λ x. (k, x)) (f k)) ks)

  -- what f makes of m, key by key
  unfoldable pub key_by_key : {X Y : Type 0} → (K → X → Option Y) → FinMap R X → FinMap R Y
  key_by_key f m = made_at (keys m) (λ k. option_and_then (f k) (get m k))

  -- the points of m that pass the test
  abbrev pub filtered : {X : Type 0} → (K → X → Bool) → FinMap R X → FinMap R X
  filtered p m = key_by_key (λ k x. then_some (p k x) x) m

  -- what f makes of m and n, at each key that one of them has
  unfoldable pub combined : {X Y Z : Type 0} → (K → Option X → Option Y → Option Z) → FinMap R X → FinMap R Y → FinMap R Z
  combined f m n = made_at (keys m ++ keys n) (λ k. f k (get m k) (get n k))

  -- the points of both; at a key of both the one of m
  abbrev pub union : {X : Type 0} → FinMap R X → FinMap R X → FinMap R X
  union m n = combined (λ k. option_or) m n

  -- the points of all; at a key of several the one of the leftmost
  abbrev pub union_all : {X : Type 0} → List (FinMap R X) → FinMap R X
  union_all [] = empty
  union_all (m ∷ ms) = union m (union_all ms)

  -- at each key of both, the values of both
  abbrev pub matched : {X Y : Type 0} → FinMap R X → FinMap R Y → FinMap R (X × Y)
  matched m n = combined (λ k. option_zip) m n
