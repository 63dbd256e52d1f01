-- Tables of ways say what comes to a number.
use Rattle.std.proofs.Common.{◌≡◌, inl, inr, ℕ, zero, suc, ◌+◌, ◌-◌, ◌≤◌, ◌<◌, Bool, false, ◌||◌, List, [], ◌∷◌, ◌++◌, Option, Some, None, length, map, refl, sym, ap, ◌∙◌, subst, cond, append_assoc, arith}
use Rattle.std.proofs.Math.Path.{ap₂}
use Rattle.std.specs.Prelude.{find, slice_get, unwrap_or}
use Rattle.std.specs.List.{list_any}
use Rattle.std.specs.Option.{option_map, option_and_then}
use Rattle.std.proofs.lemmas.Bool.Decides.{leb_tells}
use Rattle.shortest_cycles.specs.Paths.{Graph, contains, targets_of}
use Rattle.shortest_cycles.specs.Cycles.{count_from, comes_to, between, cycle_of}
use Rattle.shortest_cycles.specs.Tables.{mark_at, first_marked, row, rows, ways, next_on, is_on, IsNext}
use Rattle.shortest_cycles.proofs.CycleLemmas.{tells, find-here, find-later, between-found, between-lost}

mark-map : (f : List ℕ → Bool) → false ≡ f [] → (g : Graph) (i : ℕ) → mark_at (map f g) i ≡ f (targets_of g i)
mark-map f e [] i = e
mark-map f e (c ∷ cs) zero = refl
mark-map f e (c ∷ cs) (suc i) = mark-map f e cs i

list_any-ext : (p q : ℕ → Bool) → ((n : ℕ) → p n ≡ q n) → (xs : List ℕ) → list_any p xs ≡ list_any q xs
list_any-ext p q e [] = refl
list_any-ext p q e (x ∷ xs) = ap₂ (λ (a b : Bool). a || b) (e x) (list_any-ext p q e xs)

pub find-ext : (p q : ℕ → Bool) → ((n : ℕ) → p n ≡ q n) → (xs : List ℕ) → find p xs ≡ find q xs
find-ext p q e [] = refl
find-ext p q e (x ∷ xs) = ap₂ (λ (a : Bool) (b : Option ℕ). cond a (Some x) b) (e x) (find-ext p q e xs)

pub row-comes : (g : Graph) (j n i : ℕ) → mark_at (row g j n) i ≡ comes_to g n j i
row-comes g j zero i = mark-map (λ c. contains c j) refl g i
row-comes g j (suc n) i = mark-map (list_any (mark_at (row g j n))) refl g i ∙ list_any-ext (mark_at (row g j n)) (comes_to g n j) (row-comes g j n) (targets_of g i)

-- ---- the rows of a table

length-more : (xs : List (List Bool)) (x : List Bool) → length (xs ++ x ∷ []) ≡ suc (length xs)
length-more [] x = refl
length-more (y ∷ ys) x = ap suc (length-more ys x)

pub length-rows : (g : Graph) (j n : ℕ) → length (rows g j n) ≡ n
length-rows g j zero = refl
length-rows g j (suc n) = length-more (rows g j n) (row g j n) ∙ ap suc (length-rows g j n)

get-front : (xs : List (List Bool)) (x : List Bool) (k : ℕ) → k < length xs → slice_get (xs ++ x ∷ []) k ≡ slice_get xs k
get-front [] x k h = absurd (omega arith)
get-front (y ∷ ys) x zero h = refl
get-front (y ∷ ys) x (suc k) h = get-front ys x k (omega arith)

get-last : (xs : List (List Bool)) (x : List Bool) → slice_get (xs ++ x ∷ []) (length xs) ≡ Some x
get-last [] x = refl
get-last (y ∷ ys) x = get-last ys x

pub row-at : (g : Graph) (j m n : ℕ) → n < m → slice_get (rows g j m) n ≡ Some (row g j n)
row-at g j zero n h = absurd (omega arith)
row-at g j (suc m) n h = elim (leb_tells m n) [
  | inl t ↦ let e : m ≡ n = (let low : m ≤ n = t.1 in omega arith) in
      subst (λ (k : ℕ). slice_get (rows g j m ++ row g j m ∷ []) k ≡ Some (row g j n)) (length-rows g j m ∙ e) (get-last (rows g j m) (row g j m) ∙ ap (λ (k : ℕ). Some (row g j k)) e)
  | inr t ↦ get-front (rows g j m) (row g j m) n (subst (λ (k : ℕ). n < k) (sym (length-rows g j m)) t.1) ∙ row-at g j m n t.1
]

pub next-is : (g : Graph) (j m n i : ℕ) → n < m → next_on g (rows g j m) n i ≡ find (comes_to g n j) (targets_of g i)
next-is g j m n i h = ap (λ (o : Option (List Bool)). option_and_then (first_marked (targets_of g i)) o) (row-at g j m n h) ∙ find-ext (mark_at (row g j n)) (comes_to g n j) (row-comes g j n) (targets_of g i)

-- ---- numbers one after the other

pub count-open : (n m : ℕ) → n < m → count_from n (m - n) ≡ n ∷ count_from (n + 1) (m - (n + 1))
count-open n m h =
    let k = m - (n + 1) in
    let e : m - n ≡ suc k = omega arith in
    let f : suc n ≡ n + 1 = omega arith in
    ap (count_from n) e ∙ ap (λ (a : ℕ). n ∷ count_from a k) f

find-ext-within : (p q : ℕ → Bool) (a m : ℕ) → ((n : ℕ) → n < a + m → p n ≡ q n) → find p (count_from a m) ≡ find q (count_from a m)
find-ext-within p q a zero e = refl
find-ext-within p q a (suc m) e = ap₂ (λ (b : Bool) (o : Option ℕ). cond b (Some a) o) (e a (omega arith)) (find-ext-within p q (suc a) m (λ n h. e n (omega arith)))

is_on-comes : (g : Graph) (i m n : ℕ) → n < m → is_on (rows g i m) i n ≡ comes_to g n i i
is_on-comes g i m n h = ap (λ (o : Option (List Bool)). mark_at (unwrap_or o []) i) (row-at g i m n h) ∙ row-comes g i n i

pub shortest-is : (g : Graph) (i : ℕ) → find (is_on (rows g i (length g)) i) (count_from 0 (length (rows g i (length g)))) ≡ find (λ (n : ℕ). comes_to g n i i) (count_from 0 (length g))
shortest-is g i =
    ap (λ (m : ℕ). find (is_on (rows g i (length g)) i) (count_from 0 m)) (length-rows g i (length g))
    ∙ find-ext-within (is_on (rows g i (length g)) i) (λ (n : ℕ). comes_to g n i i) 0 (length g) (λ n h. is_on-comes g i (length g) n (omega arith))

-- ---- one step on the way

pub between-Some : (g : Graph) (m n j i k : ℕ) → n < m → next_on g (rows g j m) n i ≡ Some k → between g (suc n) j i ≡ k ∷ between g n j k
between-Some g m n j i k h found = between-found g n j i k (sym (next-is g j m n i h) ∙ found)

pub between-None : (g : Graph) (m n j i : ℕ) → n < m → next_on g (rows g j m) n i ≡ None → between g (suc n) j i ≡ between g n j i
between-None g m n j i h found = between-lost g n j i (sym (next-is g j m n i h) ∙ found)

-- ---- cycles

pub cycle-None : (g : Graph) (s : ℕ) (w : List (List Bool)) → w ≡ ways g s → find (is_on w s) (count_from 0 (length w)) ≡ None → cycle_of g s ≡ None
cycle-None g s w is e = ap (λ (o : Option ℕ). option_map (λ n. s ∷ between g n s s) o) (sym (shortest-is g s) ∙ ap (λ (v : List (List Bool)). find (is_on v s) (count_from 0 (length v))) (sym is) ∙ e)

pub cycle-Some : (g : Graph) (s n : ℕ) (w : List (List Bool)) → w ≡ ways g s → find (is_on w s) (count_from 0 (length w)) ≡ Some n → cycle_of g s ≡ Some (s ∷ between g n s s)
cycle-Some g s n w is e = ap (λ (o : Option ℕ). option_map (λ n. s ∷ between g n s s) o) (sym (shortest-is g s) ∙ ap (λ (v : List (List Bool)). find (is_on v s) (count_from 0 (length v))) (sym is) ∙ e)

-- what is found by counting is less than what is counted to
pub found-within : (p : ℕ → Bool) (a m n : ℕ) → find p (count_from a m) ≡ Some n → n < a + m
found-within p a zero n e = absurd (cc e)
found-within p a (suc m) n e = elim (tells (p a)) [
  | inl pass ↦ let same : a ≡ n = cc (sym (find-here p a (count_from (suc a) m) pass) ∙ e) in omega arith
  | inr fail ↦ let r : n < suc a + m = found-within p (suc a) m n (sym (find-later p a (count_from (suc a) m) fail) ∙ e) in omega arith
]

-- one step, where so many are left
pub way-step : (g : Graph) (m n j i b : ℕ) (x y : List ℕ) → n < m → (o : Option ℕ) → next_on g (rows g j m) n i ≡ o → IsNext o i x b y → x ++ between g (suc n) j i ≡ y ++ between g n j b
way-step g m n j i b x y h None e r = ap (λ (q : List ℕ). x ++ q) (between-None g m n j i h e) ∙ ap₂ (λ (p : List ℕ) (q : ℕ). p ++ between g n j q) (sym r.1) (sym r.0)
way-step g m n j i b x y h (Some k) e r = ap (λ (q : List ℕ). x ++ q) (between-Some g m n j i k h e) ∙ sym (append_assoc x (k ∷ []) (between g n j k)) ∙ ap₂ (λ (p : List ℕ) (q : ℕ). p ++ between g n j q) (sym r.1) (sym r.0)
