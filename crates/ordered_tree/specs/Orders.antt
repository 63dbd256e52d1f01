-- Lists in order, and their changes.
use Rattle.std.specs.Prelude.{◌≡◌, ℕ, Bool, true, false, cond, List, [], ◌∷◌, slice_get, Option, Some, None}
use Rattle.std.specs.List.{AllByRecursion, prefix_len}
use Rattle.std.specs.Ordering.{is_lt, is_eq}
use Rattle.std.specs.declared.cmp.Ordering.{Ordering}
use Rattle.std.specs.declared.cmp.Ordering.TheVariants.{Less}

-- each item is below those after it
abbrev pub Ascends : {X : Type 0} → (X → X → Ordering) → List X → Type 0
Ascends cmp [] = Unit {0}
Ascends cmp (x ∷ xs) = AllByRecursion (λ y. cmp x y ≡ Less) xs × Ascends cmp xs

-- the item that is equal to one, in a list in order
abbrev pub find_in : {X : Type 0} → (X → X → Ordering) → X → List X → Option X
find_in cmp q [] = None
find_in cmp q (y ∷ ys) = cond (is_lt (cmp y q)) (find_in cmp q ys) (cond (is_eq (cmp y q)) (Some y) None)

-- the list with an item put in, in place of the one that is equal to it
abbrev pub put_in : {X : Type 0} → (X → X → Ordering) → X → List X → List X
put_in cmp x [] = x ∷ []
put_in cmp x (y ∷ ys) = cond (is_lt (cmp y x)) (y ∷ put_in cmp x ys) (x ∷ cond (is_eq (cmp y x)) ys (y ∷ ys))

-- the list without the item that is equal to one
abbrev pub take_out : {X : Type 0} → (X → X → Ordering) → X → List X → List X
take_out cmp q [] = []
take_out cmp q (y ∷ ys) = cond (is_lt (cmp y q)) (y ∷ take_out cmp q ys) (cond (is_eq (cmp y q)) ys (y ∷ ys))

-- how many items are below one
abbrev pub count_below : {X : Type 0} → (X → X → Ordering) → X → List X → ℕ
count_below cmp q xs = prefix_len (λ y. is_lt (cmp y q)) xs

-- whether there is an item that is equal to another
abbrev pub is_equal : {X : Type 0} → (X → X → Ordering) → X → Option X → Bool
is_equal cmp q None = false
is_equal cmp q (Some y) = is_eq (cmp y q)

-- the item at the place is equal to one, or that is its place, and none there is equal to it
pub record IsAt {X : Type 0} (cmp : X → X → Ordering) (q : X) (xs : List X) (n : ℕ) : Type 0 where
  pub place : n ≡ count_below cmp q xs
  pub equal : is_equal cmp q (slice_get xs n) ≡ true

pub record IsGap {X : Type 0} (cmp : X → X → Ordering) (q : X) (xs : List X) (n : ℕ) : Type 0 where
  pub place : n ≡ count_below cmp q xs
  pub other : is_equal cmp q (slice_get xs n) ≡ false

-- a list put in order, item by item
abbrev pub in_order : {X : Type 0} → (X → X → Ordering) → List X → List X
in_order cmp [] = []
in_order cmp (x ∷ xs) = put_in cmp x (in_order cmp xs)

-- the list without the old item and with the new one, where there are such items
abbrev pub changed : {X : Type 0} → (X → X → Ordering) → Option X → Option X → List X → List X
changed cmp None None xs = xs
changed cmp (Some x) None xs = take_out cmp x xs
changed cmp None (Some y) xs = put_in cmp y xs
changed cmp (Some x) (Some y) xs = put_in cmp y (take_out cmp x xs)
