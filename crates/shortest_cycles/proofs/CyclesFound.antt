-- A number that comes to itself does so by no more steps than there are numbers.
use Rattle.std.proofs.Common.{◌≡◌, ◌≢◌, ◌⊎◌, inl, inr, ℕ, zero, suc, ◌+◌, ◌≤◌, ◌<◌, Bool, true, false, ◌||◌, List, [], ◌∷◌, ◌++◌, Option, Some, None, length, refl, sym, ap, ◌∙◌, subst, arith}
use Rattle.std.proofs.Math.Dec.{eqb}
use Rattle.std.specs.Prelude.{find, unwrap_or}
use Rattle.std.specs.List.{list_any, IsDistinct, AllByRecursion}
use Rattle.std.specs.Option.{option_map}
use Rattle.std.proofs.lemmas.Bool.{eqb-true}
use Rattle.std.proofs.lemmas.Bool.Decides.{leb_tells}
use Rattle.std.proofs.lemmas.Option.{slice_get_past}
use Rattle.std.proofs.Math.Arith.{lt_of_le-ne}
use Rattle.std.proofs.lemmas.Map.Steps.{length-le_from_distinct_below}
use Rattle.shortest_cycles.specs.Paths.{Graph, contains, targets_of, LeadsTo, IsWay}
use Rattle.shortest_cycles.specs.Cycles.{count_from, comes_to, between, FindsCycles}
use Rattle.shortest_cycles.proofs.CycleLemmas.{tells, apart, comes_to-way, find-here, find-later}

-- ---- lists without repeats

abbrev pub Differ : List ℕ → Type 0
Differ [] = Unit {0}
Differ (x ∷ xs) = (list_any (eqb x) xs ≡ false) × Differ xs

or-none : (a b : Bool) → (a || b) ≡ false → (a ≡ false) × (b ≡ false)
or-none true b h = apart true refl h
or-none false b h = (refl, h)

each_differs : (x : ℕ) (xs : List ℕ) → list_any (eqb x) xs ≡ false → AllByRecursion (λ y. eqb x y ≡ false) xs
each_differs x [] h = tt
each_differs x (y ∷ ys) h = let r = or-none (eqb x y) (list_any (eqb x) ys) h in (r.0, each_differs x ys r.1)

pub distinct : (xs : List ℕ) → Differ xs → IsDistinct eqb xs
unfolding IsDistinct
distinct [] d = tt
distinct (x ∷ xs) d = (each_differs x xs d.0, distinct xs d.1)

-- what stands from the first x on
pub record From (x : ℕ) (xs : List ℕ) : Type 0 where
  pub before : List ℕ
  pub after : List ℕ
  pub is : xs ≡ before ++ x ∷ after

from_first : (x : ℕ) (xs : List ℕ) → list_any (eqb x) xs ≡ true → From x xs
from_first x [] h = apart false h refl
from_first x (y ∷ ys) h = elim (tells (eqb x y)) [
  | inl same ↦ record { before = []; after = ys; is = ap (λ (z : ℕ). z ∷ ys) (sym (eqb-true x y same)) }
  | inr other ↦ let r = from_first x ys (subst (λ (b : Bool). (b || list_any (eqb x) ys) ≡ true) other h) in record { before = y ∷ r.before; after = r.after; is = ap (λ (zs : List ℕ). y ∷ zs) r.is }
]

differ_after : (front bs : List ℕ) → Differ (front ++ bs) → Differ bs
differ_after [] bs d = d
differ_after (a ∷ front) bs d = differ_after front bs d.1

-- ---- ways without repeats

way_after : (g : Graph) (i : ℕ) (front : List ℕ) (k : ℕ) (bs : List ℕ) (j : ℕ) → IsWay g i (front ++ k ∷ bs) j → IsWay g k bs j
way_after g i [] k bs j way = way.1
way_after g i (a ∷ front) k bs j way = way_after g a front k bs j way.1

pub record Straight (g : Graph) (i j : ℕ) : Type 0 where
  pub by : List ℕ
  pub way : IsWay g i by j
  pub differ : Differ (i ∷ by)

-- from k on, or after the later i
shortcut : (g : Graph) (i k j : ℕ) → LeadsTo g i k → Straight g k j → Straight g i j
shortcut g i k j leads r = elim (tells (list_any (eqb i) (k ∷ r.by))) [
  | inl again ↦ let f = from_first i (k ∷ r.by) again in record {
    by = f.after;
    way = way_after g i f.before i f.after j (subst (λ (ks : List ℕ). IsWay g i ks j) f.is (leads, r.way));
    differ = differ_after f.before (i ∷ f.after) (subst Differ f.is r.differ);
  }
  | inr new ↦ record { by = k ∷ r.by; way = (leads, r.way); differ = (new, r.differ) }
]

straight : (g : Graph) (i : ℕ) (ks : List ℕ) (j : ℕ) → IsWay g i ks j → Straight g i j
straight g i [] j way = record { by = []; way = way; differ = (refl, tt) }
straight g i (k ∷ ks) j way = shortcut g i k j way.0 (straight g k ks j way.1)

-- ---- what leads somewhere is in the graph

pub leads_within : (g : Graph) (i k : ℕ) → LeadsTo g i k → i < length g
leads_within g i k leads = elim (leb_tells (length g) i) [
  | inl t ↦ apart (contains (targets_of g i) k) leads (ap (λ (o : Option (List ℕ)). contains (unwrap_or o []) k) (slice_get_past g i t.1))
  | inr t ↦ t.1
]

pub starts_within : (g : Graph) (i : ℕ) (ks : List ℕ) (j : ℕ) → IsWay g i ks j → i < length g
starts_within g i [] j way = leads_within g i j way
starts_within g i (k ∷ ks) j way = leads_within g i k way.0

pub or_tells : (a b : Bool) → (a || b) ≡ true → (a ≡ true) ⊎ (b ≡ true)
or_tells true b h = inl refl
or_tells false b h = inr h

all_within : (g : Graph) (i : ℕ) (ks : List ℕ) (j : ℕ) → IsWay g i ks j → (q : ℕ) → list_any (eqb q) (i ∷ ks) ≡ true → q < length g
all_within g i [] j way q h = elim (or_tells (eqb q i) false h) [
  | inl same ↦ subst (λ (x : ℕ). x < length g) (sym (eqb-true q i same)) (starts_within g i [] j way)
  | inr none ↦ apart false none refl
]
all_within g i (k ∷ ks) j way q h = elim (or_tells (eqb q i) (list_any (eqb q) (k ∷ ks)) h) [
  | inl same ↦ subst (λ (x : ℕ). x < length g) (sym (eqb-true q i same)) (leads_within g i k way.0)
  | inr later ↦ all_within g k ks j way.1 q later
]

-- ---- the search finds it

pub found_within : (q : ℕ → Bool) (a m n : ℕ) → a ≤ n → n < a + m → q n ≡ true → find q (count_from a m) ≢ None
found_within q a zero n low high passes none = absurd (omega arith)
found_within q a (suc m) n low high passes none = elim (tells (q a)) [
  | inl pass ↦ absurd (let e : Some a ≡ None = sym (find-here q a (count_from (suc a) m) pass) ∙ none in cc e)
  | inr fail ↦ found_within q (suc a) m n
      (let other : a ≢ n = λ e. apart (q n) passes (ap q (sym e) ∙ fail) in lt_of_le-ne low other)
      (omega arith) passes (sym (find-later q a (count_from (suc a) m) fail) ∙ none)
]

none_inside : (f : ℕ → List ℕ) (o : Option ℕ) → option_map f o ≡ None → o ≡ None
none_inside f None e = refl
none_inside f (Some n) e = absurd (cc e)

pub finds_cycles : FindsCycles
finds_cycles g i ks way none =
    let s = straight g i ks i way in
    let small : length (i ∷ s.by) ≤ length g = length-le_from_distinct_below (i ∷ s.by) (length g) (distinct (i ∷ s.by) s.differ) (all_within g i s.by i s.way) in
    let few : length s.by < 0 + length g = omega arith in
    found_within (λ (n : ℕ). comes_to g n i i) 0 (length g) (length s.by) (omega arith) few (comes_to-way g s.by i i s.way)
    (none_inside (λ n. i ∷ between g n i i) (find (λ (n : ℕ). comes_to g n i i) (count_from 0 (length g))) none)
