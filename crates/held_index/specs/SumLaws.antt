-- Laws of sums.
use Rattle.std.proofs.Common.{◌≡◌, ℕ, zero, suc, ◌+◌, ◌<◌, ◌≤◌, min, List, [], ◌∷◌, ◌++◌, length, drop, get_or, refl, sym, inl, inr, append_assoc, arith}
use Rattle.std.proofs.lemmas.List.{drop_more, drop_all, append-nil}
use Rattle.std.proofs.lemmas.Bool.{cases_lt}
use Rattle.std.proofs.Math.Nat.{add_assoc}
use Rattle.std.proofs.Math.IntN.{+ℤ_assoc, +ℤ_idl}
use Rattle.std.proofs.lemmas.List.Elements.{All-nil, All-cons, All-head, All-tail, All-weaker}
use Rattle.std.proofs.lemmas.Int.{ints}
use Rattle.ordered_tree.specs.Measures.{MonoidLaws, FitLaws}
use Rattle.held_index.specs.declared.want.SumOf.{SumOf}
use Rattle.held_index.specs.Sums.{no_sum, add_sums, join_sums, sum_at, FitsPoints, FitAll}

pub same_sum : (a b : SumOf) → a.sum ≡ b.sum → a.found ≡ b.found → a ≡ b
same_sum a b e f i = record { sum = e i; found = f i }

pub add_sums-assoc : (a b c : SumOf) → add_sums (add_sums a b) c ≡ add_sums a (add_sums b c)
add_sums-assoc a b c = same_sum _ _ (+ℤ_assoc a.sum b.sum c.sum) (add_assoc a.found b.found c.found)

pub add_sums-left : (a : SumOf) → add_sums no_sum a ≡ a
add_sums-left a = same_sum _ _ (+ℤ_idl a.sum) (omega arith)

pub add_sums-right : (a : SumOf) → add_sums a no_sum ≡ a
add_sums-right a = same_sum _ _ (omega (arith, ints)) (omega arith)

pub join_sums-nil : (xs : List SumOf) → join_sums xs [] ≡ xs
join_sums-nil [] = refl
join_sums-nil (x ∷ xs) = refl

-- two lists, joined place by place in a loop
pub join_more : (xs ys done : List SumOf) (i : ℕ) (d e : SumOf) → i < length xs → i < length ys → (done ++ add_sums (get_or xs i d) (get_or ys i e) ∷ []) ++ join_sums (drop (i + 1) xs) (drop (i + 1) ys) ≡ done ++ join_sums (drop i xs) (drop i ys)
join_more xs ys done i d e h k = rw (drop_more xs i d h, drop_more ys i e k) (append_assoc done (add_sums (get_or xs i d) (get_or ys i e) ∷ []) (join_sums (drop (i + 1) xs) (drop (i + 1) ys)))

pub join_rest : (xs ys done : List SumOf) (i : ℕ) → i ≡ min (length xs) (length ys) → (done ++ drop i xs) ++ drop i ys ≡ done ++ join_sums (drop i xs) (drop i ys)
join_rest xs ys done i e = elim (cases_lt (length xs) (length ys)) [
  | inl l ↦ let none : drop i xs ≡ [] = drop_all i xs (omega arith) in rw (none, append-nil done) refl
  | inr l ↦ let none : drop i ys ≡ [] = drop_all i ys (omega arith) in rw (none, join_sums-nil (drop i xs), append-nil (done ++ drop i xs)) refl
]

join_sums-assoc : (xs ys zs : List SumOf) → join_sums (join_sums xs ys) zs ≡ join_sums xs (join_sums ys zs)
join_sums-assoc [] ys zs = refl
join_sums-assoc (x ∷ xs) [] zs = refl
join_sums-assoc (x ∷ xs) (y ∷ ys) [] = refl
join_sums-assoc (x ∷ xs) (y ∷ ys) (z ∷ zs) = λ i. add_sums-assoc x y z i ∷ join_sums-assoc xs ys zs i

pub join_sums-monoid : MonoidLaws [] join_sums
join_sums-monoid = record { assoc = join_sums-assoc; left = λ xs. refl; right = join_sums-nil }

more : (n m : ℕ) (s : SumOf) → n ≤ m → FitsPoints n s → FitsPoints m s
more n m s h f = record { found = omega arith; least = omega (arith, ints); most = omega (arith, ints) }

pub add_sums-fits : (n m : ℕ) (a b : SumOf) → FitsPoints n a → FitsPoints m b → FitsPoints (n + m) (add_sums a b)
add_sums-fits n m a b f g = record { found = omega arith; least = omega (arith, ints); most = omega (arith, ints) }

join_fits : (n m : ℕ) (xs ys : List SumOf) → FitAll n xs → FitAll m ys → FitAll (n + m) (join_sums xs ys)
join_fits n m [] ys f g = All-weaker (FitsPoints m) (FitsPoints (n + m)) (λ s. more m (n + m) s (omega arith)) ys g
join_fits n m (x ∷ xs) [] f g = All-weaker (FitsPoints n) (FitsPoints (n + m)) (λ s. more n (n + m) s (omega arith)) (x ∷ xs) f
join_fits n m (x ∷ xs) (y ∷ ys) f g =
    All-cons (FitsPoints (n + m)) (add_sums x y) (join_sums xs ys)
    (add_sums-fits n m x y (All-head (FitsPoints n) x xs f) (All-head (FitsPoints m) y ys g))
    (join_fits n m xs ys (All-tail (FitsPoints n) x xs f) (All-tail (FitsPoints m) y ys g))

pub join_sums-fit : FitLaws [] join_sums FitAll
join_sums-fit = record { empty = All-nil (FitsPoints 0); both = join_fits }

-- at each place the sums are added
pub sum_at-join_sums : (which : ℕ) (xs ys : List SumOf) → sum_at which (join_sums xs ys) ≡ add_sums (sum_at which xs) (sum_at which ys)
sum_at-join_sums which [] ys = sym (add_sums-left (sum_at which ys))
sum_at-join_sums which (x ∷ xs) [] = sym (add_sums-right (sum_at which (x ∷ xs)))
sum_at-join_sums zero (x ∷ xs) (y ∷ ys) = refl
sum_at-join_sums (suc which) (x ∷ xs) (y ∷ ys) = sum_at-join_sums which xs ys

nothing_fits : (n : ℕ) → FitsPoints n no_sum
nothing_fits n = record { found = omega arith; least = omega (arith, ints); most = omega (arith, ints) }

pub sum_at-fits : (n which : ℕ) (xs : List SumOf) → FitAll n xs → FitsPoints n (sum_at which xs)
sum_at-fits n which [] f = nothing_fits n
sum_at-fits n zero (x ∷ xs) f = All-head (FitsPoints n) x xs f
sum_at-fits n (suc which) (x ∷ xs) f = sum_at-fits n which xs (All-tail (FitsPoints n) x xs f)
