-- Statements that name a result.
use Rattle.std.proofs.Common.{◌≡◌, ◌≢◌, inl, inr, ℕ, zero, suc, ◌+◌, ◌<◌, Bool, true, false, not, cond, ◌&&◌, List, [], ◌∷◌, length, get_or, Some, sym, ◌∙◌, ap, refl, arith, filter}
use Rattle.std.specs.Prelude.{count_by}
use Rattle.std.specs.List.{All, AllPairs, list_all, slice_get}
use Rattle.std.proofs.lemmas.Bool.{cases_Bool, cases_eq, eq-eqb, ne_eqb, eqb-true}
use Rattle.std.proofs.lemmas.List.Elements.{All-nil, All-head, All-tail, All-cons, All-weaker}
use Rattle.std.proofs.lemmas.List.Kept.{AllPairs-filter}
use Rattle.std.proofs.lemmas.List.Sums.{sum_by-cons}
use Rattle.data_set_trees.specs.declared.checked.script.CheckedStatement.{CheckedStatement}
use Rattle.data_set_trees.specs.declared.tree.Source.{Source}
use Rattle.data_set_trees.specs.declared.tree.Source.TheVariants.{Input, Result as ResultOf}
use Rattle.data_set_trees.specs.checked.Expressions.{expression_of}
use Rattle.data_set_trees.specs.checked.Scripts.{Script, is_same, once_each, names_in, sources_of, names_result, uses_of}
use Rattle.operator_meaning.proofs.ScriptLemmas.{names_of-there}
use Rattle.round_core.specs.declared.slot.Slot.{Slot}
use Rattle.round_core.specs.Slots.{names_it, NamesAt, NamesNone}

-- ---- equal names

pub is_same-self : (n : Source) → is_same n n ≡ true
is_same-self (Input n) = eq-eqb n n refl
is_same-self (ResultOf i) = eq-eqb i i refl

pub is_same-true : (n m : Source) → is_same n m ≡ true → n ≡ m
is_same-true (Input n) (Input m) e = ap Input (eqb-true n m e)
is_same-true (Input n) (ResultOf j) e = cc e
is_same-true (ResultOf i) (Input m) e = cc e
is_same-true (ResultOf i) (ResultOf j) e = ap ResultOf (eqb-true i j e)

pub is_same-false : (n m : Source) → n ≢ m → is_same n m ≡ false
is_same-false n m h = elim (cases_Bool (is_same n m)) [ inl t ↦ absurd (h (is_same-true n m t)) | inr f ↦ f ]

-- ---- each once

filter_apart : (n : Source) (xs : List Source) → All (λ m. n ≢ m) (filter (λ m. not (is_same n m)) xs)
filter_apart n [] = All-nil (λ m. n ≢ m)
filter_apart n (x ∷ xs) = by_test (is_same n x) refl (filter_apart n xs)
  where
    by_test : (b : Bool) → is_same n x ≡ b → All (λ m. n ≢ m) (filter (λ m. not (is_same n m)) xs) → All (λ m. n ≢ m) (filter (λ m. not (is_same n m)) (x ∷ xs))
    by_test true e h = rw e h
    by_test false e h = rw e (All-cons (λ m. n ≢ m) x (filter (λ m. not (is_same n m)) xs) (λ q. let t = ap (is_same n) (sym q) ∙ is_same-self n in cc (t, e)) h)

AllPairs-cons : {A : Type 0} (R : A → A → Type 0) (x : A) (xs : List A) → All (R x) xs → AllPairs R xs → AllPairs R (x ∷ xs)
AllPairs-cons R x xs h t zero zero d l m = absurd (omega (arith, l))
AllPairs-cons R x xs h t zero (suc k) d l m = h k d (omega (arith, m))
AllPairs-cons R x xs h t (suc j) zero d l m = absurd (omega (arith, l))
AllPairs-cons R x xs h t (suc j) (suc k) d l m = t j k d (omega (arith, l)) (omega (arith, m))

pub once_each-apart : (ns : List Source) → AllPairs (λ a b. a ≢ b) (once_each ns)
once_each-apart [] = λ j k d l m. absurd (omega (arith, m))
once_each-apart (n ∷ ns) = AllPairs-cons (λ a b. a ≢ b) n (filter (λ m. not (is_same n m)) (once_each ns)) (filter_apart n (once_each ns)) (AllPairs-filter (λ a b. a ≢ b) (λ m. not (is_same n m)) (once_each ns) (once_each-apart ns))

-- a name stands in one place
pub one_place : (ns : List Source) (i j k : ℕ) (e : Source) → AllPairs (λ a b. a ≢ b) ns → j < length ns → k < length ns → get_or ns j e ≡ ResultOf i → get_or ns k e ≡ ResultOf i → j ≡ k
one_place ns i j k e apart lj lk p q = elim (cases_eq j k) [
  | inl same ↦ same
  | inr other ↦ absurd (elim (Rattle.std.proofs.lemmas.Bool.cases_lt j k) [
    | inl l ↦ apart j k e l lk (p ∙ sym q)
    | inr l ↦ apart k j e (grind (arith, l, other)) lj (q ∙ sym p)
  ])
]

-- ---- who names a result

abbrev other_than : ℕ → Source → Bool
other_than i n = not (is_same (ResultOf i) n)

all_filtered : (i : ℕ) (n : Source) (xs : List Source) → other_than i n ≡ true → list_all (other_than i) (filter (λ m. not (is_same n m)) xs) ≡ list_all (other_than i) xs
all_filtered i n [] h = refl
all_filtered i n (x ∷ xs) h = by_test (is_same n x) refl (all_filtered i n xs h)
  where
    by_test : (b : Bool) → is_same n x ≡ b → list_all (other_than i) (filter (λ m. not (is_same n m)) xs) ≡ list_all (other_than i) xs → list_all (other_than i) (filter (λ m. not (is_same n m)) (x ∷ xs)) ≡ list_all (other_than i) (x ∷ xs)
    by_test true e r = let t : other_than i x ≡ true = ap (other_than i) (sym (is_same-true n x e)) ∙ h in rw (e, t) r
    by_test false e r = rw e (ap (λ b. other_than i x && b) r)

all_once : (i : ℕ) (ns : List Source) → list_all (other_than i) (once_each ns) ≡ list_all (other_than i) ns
all_once i [] = refl
all_once i (n ∷ ns) = by_test (other_than i n) refl (all_once i ns)
  where
    by_test : (b : Bool) → other_than i n ≡ b → list_all (other_than i) (once_each ns) ≡ list_all (other_than i) ns → list_all (other_than i) (once_each (n ∷ ns)) ≡ list_all (other_than i) (n ∷ ns)
    by_test true e r = ap (λ b. other_than i n && b) (all_filtered i n (once_each ns) e ∙ r)
    by_test false e r = rw e refl

all_true : (p : Source → Bool) (ns : List Source) → All (λ n. p n ≡ true) ns → list_all p ns ≡ true
all_true p [] h = refl
all_true p (n ∷ ns) h = let t = All-head (λ m. p m ≡ true) n ns h in rw t (all_true p ns (All-tail (λ m. p m ≡ true) n ns h))

all_false : (p : Source → Bool) (ns : List Source) (k : ℕ) (n : Source) → slice_get ns k ≡ Some n → p n ≡ false → list_all p ns ≡ false
all_false p [] k n e h = cc e
all_false p (m ∷ ns) zero n e h = let q : m ≡ n = cc e in let t : p m ≡ false = ap p q ∙ h in rw t refl
all_false p (m ∷ ns) (suc k) n e h = by_test (p m) refl (all_false p ns k n e h)
  where
    by_test : (b : Bool) → p m ≡ b → list_all p ns ≡ false → list_all p (m ∷ ns) ≡ false
    by_test true t r = rw t r
    by_test false t r = rw t refl

pub names_it-none : (i : ℕ) (slot : Slot) → NamesNone slot.sources i → names_it i slot ≡ false
names_it-none i slot h = ap not (all_true (other_than i) slot.sources (All-weaker (λ n. n ≢ ResultOf i) (λ n. other_than i n ≡ true) (λ n ne. ap not (is_same-false (ResultOf i) n (λ e. ne (sym e)))) slot.sources h))

pub names_it-at : (i k : ℕ) (slot : Slot) → NamesAt slot.sources i k → names_it i slot ≡ true
names_it-at i k slot h = ap not (all_false (other_than i) slot.sources k (ResultOf i) h (ap not (is_same-self (ResultOf i))))

-- ---- how many do

count_same : {A B : Type 0} (p : A → Bool) (q : B → Bool) (xs : List A) (ys : List B) → length xs ≡ length ys → ((k : ℕ) (d : A) (e : B) → k < length xs → p (get_or xs k d) ≡ q (get_or ys k e)) → count_by p xs ≡ count_by q ys
count_same p q [] [] l h = refl
count_same p q [] (y ∷ ys) l h = absurd (omega (arith, l))
count_same p q (x ∷ xs) [] l h = absurd (omega (arith, l))
count_same p q (x ∷ xs) (y ∷ ys) l h =
    let t : p x ≡ q y = h 0 x y (omega arith) in
    let r : count_by p xs ≡ count_by q ys = count_same p q xs ys (omega (arith, l)) (λ k d e m. h (suc k) d e (omega (arith, m))) in
    sum_by-cons (λ z. cond (p z) 1 0) x xs ∙ ap (λ b. cond b 1 0 + count_by p xs) t ∙ ap (λ m. cond (q y) 1 0 + m) r ∙ sym (sum_by-cons (λ z. cond (q z) 1 0) y ys)

pub named_by : (c : Script) (i j : ℕ) (statement : CheckedStatement) (slot : Slot) → slice_get c.statements j ≡ Some statement → slot.sources ≡ sources_of c j → names_it i slot ≡ names_result i statement
named_by c i j statement slot there e = ap not (ap (list_all (other_than i)) (e ∙ ap once_each (names_of-there c j statement there)) ∙ all_once i (names_in (expression_of statement.tree)))

-- as many slots name a result as statements do
pub count_uses : (c : Script) (i : ℕ) (slots : List Slot) → length slots ≡ length c.statements → ((j : ℕ) (d : Slot) → j < length slots → (get_or slots j d).sources ≡ sources_of c j) → count_by (names_it i) slots ≡ uses_of c i
count_uses c i slots l h = count_same (names_it i) (names_result i) slots c.statements l (λ k d e m.
    named_by c i k (get_or c.statements k e) (get_or slots k d) (Rattle.std.proofs.lemmas.Option.slice_get-get_or c.statements k e (omega (arith, l, m))) (h k d m))
