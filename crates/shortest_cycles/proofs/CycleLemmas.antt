-- What is found in a graph.
use Rattle.std.proofs.Common.{◌≡◌, ◌≢◌, ◌⊎◌, inl, inr, ℕ, zero, suc, ◌≤◌, ◌<◌, ◌==◌, Bool, true, false, ◌||◌, List, [], ◌∷◌, Option, Some, None, length, refl, sym, ap, ◌∙◌, subst, arith}
use Rattle.std.specs.Prelude.{find}
use Rattle.std.specs.List.{list_any}
use Rattle.std.specs.Option.{option_map}
use Rattle.std.proofs.lemmas.Bool.{eqb-true, eq-eqb}
use Rattle.std.proofs.lemmas.Bool.Decides.{leb_tells}
use Rattle.shortest_cycles.specs.Paths.{Graph, contains, targets_of, IsWay, StandsBefore, IsMentionedFirst, IsShortestCycle}
use Rattle.shortest_cycles.specs.Cycles.{count_from, comes_to, from_found, between, FindsShortest}

-- ---- tests

pub tells : (b : Bool) → (b ≡ true) ⊎ (b ≡ false)
tells true = inl refl
tells false = inr refl

pub apart : {A : Type 0} (b : Bool) → b ≡ true → b ≡ false → A
apart b pass fail = absurd (let e : true ≡ false = sym pass ∙ fail in cc e)

or-first : (a b : Bool) → a ≡ true → (a || b) ≡ true
or-first true b h = refl
or-first false b h = apart false h refl

or-second : (a b : Bool) → b ≡ true → (a || b) ≡ true
or-second true b h = refl
or-second false b h = h

or-rest : (a b : Bool) → a ≡ false → (a || b) ≡ true → b ≡ true
or-rest true b fail h = apart true refl fail
or-rest false b fail h = h

pub contains-here : (x : ℕ) (xs : List ℕ) → contains (x ∷ xs) x ≡ true
contains-here x xs = or-first (x == x) (contains xs x) (eq-eqb x x refl)

pub contains-later : (x : ℕ) (xs : List ℕ) (k : ℕ) → contains xs k ≡ true → contains (x ∷ xs) k ≡ true
contains-later x xs k h = or-second (x == k) (contains xs k) h

-- one that passes
pub one_of : (p : ℕ → Bool) (xs : List ℕ) → list_any p xs ≡ true → (k : ℕ) × (contains xs k ≡ true) × (p k ≡ true)
one_of p [] h = apart false h refl
one_of p (x ∷ xs) h = elim (tells (p x)) [
  | inl pass ↦ (x, contains-here x xs, pass)
  | inr fail ↦ let r = one_of p xs (or-rest (p x) (list_any p xs) fail h) in (r.0, contains-later x xs r.0 r.1, r.2)
]

pub any_of : (p : ℕ → Bool) (xs : List ℕ) (k : ℕ) → contains xs k ≡ true → p k ≡ true → list_any p xs ≡ true
any_of p [] k h passes = apart false h refl
any_of p (x ∷ xs) k h passes = elim (tells (x == k)) [
  | inl pass ↦ or-first (p x) (list_any p xs) (ap p (eqb-true x k pass) ∙ passes)
  | inr fail ↦ or-second (p x) (list_any p xs) (any_of p xs k (or-rest (x == k) (contains xs k) fail h) passes)
]

-- the first that passes, before each other that does
pub record IsFirst (p : ℕ → Bool) (xs : List ℕ) (k : ℕ) : Type 0 where
  pub found : find p xs ≡ Some k
  pub there : contains xs k ≡ true
  pub passes : p k ≡ true
  pub before : (l : ℕ) → contains xs l ≡ true → p l ≡ true → (k ≡ l) ⊎ StandsBefore xs k l

pub find-here : (p : ℕ → Bool) (x : ℕ) (xs : List ℕ) → p x ≡ true → find p (x ∷ xs) ≡ Some x
find-here p x xs h = rw h refl

pub find-later : (p : ℕ → Bool) (x : ℕ) (xs : List ℕ) → p x ≡ false → find p (x ∷ xs) ≡ find p xs
find-later p x xs h = rw h refl

head_is_first : (p : ℕ → Bool) (x : ℕ) (xs : List ℕ) → p x ≡ true → IsFirst p (x ∷ xs) x
head_is_first p x xs pass = record {
  found = find-here p x xs pass;
  there = contains-here x xs;
  passes = pass;
  before = λ l h q. elim (tells (x == l)) [
    | inl same ↦ inl (eqb-true x l same)
    | inr other ↦ inr ((λ e. apart (x == l) (eq-eqb x l e) other), inl refl)
  ];
}

later_is_first : (p : ℕ → Bool) (x : ℕ) (xs : List ℕ) (k : ℕ) → p x ≡ false → IsFirst p xs k → IsFirst p (x ∷ xs) k
later_is_first p x xs k fail r = record {
  found = find-later p x xs fail ∙ r.found;
  there = contains-later x xs k r.there;
  passes = r.passes;
  before = λ l h q. elim (tells (x == l)) [
    | inl same ↦ apart (p x) (ap p (eqb-true x l same) ∙ q) fail
    | inr other ↦ elim (r.before l (or-rest (x == l) (contains xs l) other h) q) [
      | inl e ↦ inl e
      | inr b ↦ inr ((λ e. apart (x == l) (eq-eqb x l e) other), inr b)
    ]
  ];
}

pub first_of : (p : ℕ → Bool) (xs : List ℕ) → list_any p xs ≡ true → (k : ℕ) × IsFirst p xs k
first_of p [] h = apart false h refl
first_of p (x ∷ xs) h = elim (tells (p x)) [
  | inl pass ↦ (x, head_is_first p x xs pass)
  | inr fail ↦ let r = first_of p xs (or-rest (p x) (list_any p xs) fail h) in (r.0, later_is_first p x xs r.0 fail r.1)
]

-- ---- ways

pub comes_to-way : (g : Graph) (ks : List ℕ) (j i : ℕ) → IsWay g i ks j → comes_to g (length ks) j i ≡ true
comes_to-way g [] j i way = way
comes_to-way g (k ∷ ks) j i way = any_of (comes_to g (length ks) j) (targets_of g i) k way.0 (comes_to-way g ks j k way.1)

pub between-found : (g : Graph) (n j i k : ℕ) → find (comes_to g n j) (targets_of g i) ≡ Some k → between g (suc n) j i ≡ k ∷ between g n j k
between-found g n j i k found = ap (from_found (between g n j) (between g n j i)) found

pub between-lost : (g : Graph) (n j i : ℕ) → find (comes_to g n j) (targets_of g i) ≡ None → between g (suc n) j i ≡ between g n j i
between-lost g n j i lost = ap (from_found (between g n j) (between g n j i)) lost

-- the way that is told, of n + 1 steps, mentioned before each other
pub record IsFirstWay (g : Graph) (n j i : ℕ) (ks : List ℕ) : Type 0 where
  pub way : IsWay g i ks j
  pub steps : length ks ≡ n
  pub first : (ls : List ℕ) → IsWay g i ls j → length ls ≡ n → IsMentionedFirst g i ks ls

no_length : (n : ℕ) → zero ≡ suc n → ⊥
no_length n e = omega arith

first_step : (g : Graph) (n j i k : ℕ) (ks : List ℕ) → IsFirst (comes_to g n j) (targets_of g i) k → IsFirstWay g n j k ks → (ls : List ℕ) → IsWay g i ls j → length ls ≡ suc n → IsMentionedFirst g i (k ∷ ks) ls
first_step g n j i k ks f r [] way steps = tt
first_step g n j i k ks f r (l ∷ ls) way steps =
    let m : length ls ≡ n = omega arith in
    let comes : comes_to g n j l ≡ true = subst (λ (x : ℕ). comes_to g x j l ≡ true) m (comes_to-way g ls j l way.1) in
    elim (f.before l way.0 comes) [
      | inl e ↦ inl (e, r.first ls (subst (λ (x : ℕ). IsWay g x ls j) (sym e) way.1) m)
      | inr b ↦ inr b
    ]

pub between-first : (g : Graph) (n j i : ℕ) → comes_to g n j i ≡ true → IsFirstWay g n j i (between g n j i)
between-first g zero j i h = record { way = h; steps = refl; first = λ ls way steps. tt }
between-first g (suc n) j i h =
    let f = first_of (comes_to g n j) (targets_of g i) h in
    let k = f.0 in
    let r = between-first g n j k f.1.passes in
    subst (λ (ks : List ℕ). IsFirstWay g (suc n) j i ks) (sym (between-found g n j i k f.1.found)) (record {
      way = (f.1.there, r.way);
      steps = ap suc r.steps;
      first = first_step g n j i k (between g n j k) f.1 r;
    })

-- ---- the least number that passes

pub record IsLeast (q : ℕ → Bool) (a n : ℕ) : Type 0 where
  pub passes : q n ≡ true
  pub none_below : (k : ℕ) → a ≤ k → k < n → q k ≡ false

least_step : (q : ℕ → Bool) (a n : ℕ) → q a ≡ false → IsLeast q (suc a) n → IsLeast q a n
least_step q a n fail r = record {
  passes = r.passes;
  none_below = λ k low high. elim (tells (a == k)) [
    | inl same ↦ ap q (sym (eqb-true a k same)) ∙ fail
    | inr other ↦ r.none_below k (let apart_from : a ≢ k = λ e. apart (a == k) (eq-eqb a k e) other in omega arith) high
  ];
}

pub least_from : (q : ℕ → Bool) (a m n : ℕ) → find q (count_from a m) ≡ Some n → IsLeast q a n
least_from q a zero n found = absurd (cc found)
least_from q a (suc m) n found = elim (tells (q a)) [
  | inl pass ↦ let e : a ≡ n = cc (sym (find-here q a (count_from (suc a) m) pass) ∙ found) in record {
    passes = subst (λ (x : ℕ). q x ≡ true) e pass;
    none_below = λ k low high. absurd (let b : a ≡ n = e in omega arith);
  }
  | inr fail ↦ least_step q a n fail (least_from q (suc a) m n (sym (find-later q a (count_from (suc a) m) fail) ∙ found))
]

-- ---- cycles

is_shortest : (g : Graph) (i n : ℕ) → IsLeast (λ (m : ℕ). comes_to g m i i) 0 n → IsShortestCycle g i (between g n i i)
is_shortest g i n least =
    let r = between-first g n i i least.passes in
    let long : length (between g n i i) ≡ n = r.steps in record {
      cycle = r.way;
      shortest = λ ls way. elim (leb_tells n (length ls)) [
        | inl t ↦ let le : n ≤ length ls = t.1 in omega arith
        | inr t ↦ apart (comes_to g (length ls) i i) (comes_to-way g ls i i way) (least.none_below (length ls) (omega arith) t.1)
      ];
      first = λ ls way steps. r.first ls way (steps ∙ long);
    }

opened : (g : Graph) (i : ℕ) (c : List ℕ) (o : Option ℕ) → find (λ (n : ℕ). comes_to g n i i) (count_from 0 (length g)) ≡ o → option_map (λ n. i ∷ between g n i i) o ≡ Some c → (ks : List ℕ) × (c ≡ i ∷ ks) × IsShortestCycle g i ks
opened g i c None is e = absurd (cc e)
opened g i c (Some n) is e = (between g n i i, let d : i ∷ between g n i i ≡ c = cc e in sym d, is_shortest g i n (least_from (λ (m : ℕ). comes_to g m i i) 0 (length g) n is))

pub finds_shortest : FindsShortest
finds_shortest g i c e = opened g i c (find (λ (n : ℕ). comes_to g n i i) (count_from 0 (length g))) refl e
