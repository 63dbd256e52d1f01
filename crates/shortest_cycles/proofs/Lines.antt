-- In a graph without cycles no line of numbers is as long as there are numbers.
use Rattle.std.proofs.Common.{◌≡◌, ◌⊎◌, inl, inr, ℕ, ◌≤◌, ◌<◌, true, false, ◌||◌, List, [], ◌∷◌, length, refl, sym, subst, arith}
use Rattle.std.proofs.Math.Dec.{eqb}
use Rattle.std.specs.List.{list_any}
use Rattle.std.proofs.lemmas.Bool.{eqb-true}
use Rattle.std.proofs.lemmas.Map.Steps.{length-le_from_distinct_below}
use Rattle.shortest_cycles.specs.Paths.{Graph, LeadsTo, IsWay, HasNoCycle}
use Rattle.shortest_cycles.proofs.CycleLemmas.{tells, apart}
use Rattle.shortest_cycles.proofs.CyclesFound.{Differ, distinct, or_tells, leads_within}

-- ---- lines

-- from i one comes to these, one after the other
abbrev pub IsLine : Graph → ℕ → List ℕ → Type 0
IsLine g i [] = i < length g
IsLine g i (k ∷ ks) = LeadsTo g i k × IsLine g k ks

abbrev pub Cycle : Graph → Type 0
Cycle g = (j : ℕ) × (by : List ℕ) × IsWay g j by j

first_within : (g : Graph) (i : ℕ) (ks : List ℕ) → IsLine g i ks → i < length g
first_within g i [] line = line
first_within g i (k ∷ ks) line = leads_within g i k line.0

all_within : (g : Graph) (i : ℕ) (ks : List ℕ) → IsLine g i ks → (q : ℕ) → list_any (eqb q) (i ∷ ks) ≡ true → q < length g
all_within g i [] line q h = elim (or_tells (eqb q i) false h) [
  | inl same ↦ subst (λ (x : ℕ). x < length g) (sym (eqb-true q i same)) line
  | inr none ↦ apart false none refl
]
all_within g i (k ∷ ks) line q h = elim (or_tells (eqb q i) (list_any (eqb q) (k ∷ ks)) h) [
  | inl same ↦ subst (λ (x : ℕ). x < length g) (sym (eqb-true q i same)) (leads_within g i k line.0)
  | inr later ↦ all_within g k ks line.1 q later
]

-- a later number that is i again ends a cycle
comes_back : (g : Graph) (j i k : ℕ) (ks : List ℕ) → LeadsTo g i k → IsLine g k ks → list_any (eqb j) (k ∷ ks) ≡ true → (by : List ℕ) × IsWay g i by j
comes_back g j i k [] leads line h = elim (or_tells (eqb j k) false h) [
  | inl same ↦ ([], subst (LeadsTo g i) (sym (eqb-true j k same)) leads)
  | inr none ↦ apart false none refl
]
comes_back g j i k (l ∷ ls) leads line h = elim (or_tells (eqb j k) (list_any (eqb j) (l ∷ ls)) h) [
  | inl same ↦ ([], subst (LeadsTo g i) (sym (eqb-true j k same)) leads)
  | inr later ↦ let r = comes_back g j k l ls line.0 line.1 later in (k ∷ r.0, (leads, r.1))
]

line_tells : (g : Graph) (i : ℕ) (ks : List ℕ) → IsLine g i ks → Differ (i ∷ ks) ⊎ Cycle g
line_tells g i [] line = inl (refl, tt)
line_tells g i (k ∷ ks) line = elim (tells (list_any (eqb i) (k ∷ ks))) [
  | inl again ↦ let r = comes_back g i i k ks line.0 line.1 again in inr (i, r.0, r.1)
  | inr new ↦ elim (line_tells g k ks line.1) [ inl differ ↦ inl (new, differ) | inr cycle ↦ inr cycle ]
]

pub lines_end : (g : Graph) → HasNoCycle g → (i : ℕ) (ks : List ℕ) → IsLine g i ks → length ks ≡ length g → ⊥
lines_end g none i ks line long = elim (line_tells g i ks line) [
  | inl differ ↦
      let small : length (i ∷ ks) ≤ length g = length-le_from_distinct_below (i ∷ ks) (length g) (distinct (i ∷ ks) differ) (all_within g i ks line) in
      absurd (omega arith)
  | inr cycle ↦ absurd (none cycle.0 cycle.1 cycle.2)
]
