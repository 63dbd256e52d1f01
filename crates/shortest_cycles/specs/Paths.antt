-- Ways and cycles in a graph of numbers.
use Rattle.std.specs.Prelude.{◌≡◌, ◌≢◌, ◌⊎◌, ℕ, ◌<◌, ◌≤◌, List, [], ◌∷◌, ◌++◌, Bool, true, ◌==◌, length, slice_get, unwrap_or, if◌then◌else◌}
use Rattle.std.specs.List.{list_any}

-- for each number those to which it leads, in the order in which it mentions them
abbrev pub Graph : Type 0
Graph = List (List ℕ)

abbrev pub contains : List ℕ → ℕ → Bool
contains ns n = list_any (λ m. m == n) ns

-- it stands at the end, if it isn't there
abbrev pub put_once : List ℕ → ℕ → List ℕ
put_once ns n = if contains ns n then ns else ns ++ n ∷ []

abbrev pub targets_of : Graph → ℕ → List ℕ
targets_of g i = unwrap_or (slice_get g i) []

abbrev pub LeadsTo : Graph → ℕ → ℕ → Type 0
LeadsTo g i k = contains (targets_of g i) k ≡ true

-- from i one comes to j by way of these
abbrev pub IsWay : Graph → ℕ → List ℕ → ℕ → Type 0
IsWay g i [] j = LeadsTo g i j
IsWay g i (k ∷ ks) j = LeadsTo g i k × IsWay g k ks j

-- k is in the list, and l isn't in it up to there
abbrev pub StandsBefore : List ℕ → ℕ → ℕ → Type 0
StandsBefore [] k l = ⊥
StandsBefore (n ∷ ns) k l = (n ≢ l) × ((n ≡ k) ⊎ StandsBefore ns k l)

-- at the first difference, the first of the two lists has what is mentioned first by the number before
abbrev pub IsMentionedFirst : Graph → ℕ → List ℕ → List ℕ → Type 0
IsMentionedFirst g i [] ls = Unit {0}
IsMentionedFirst g i (k ∷ ks) [] = Unit {0}
IsMentionedFirst g i (k ∷ ks) (l ∷ ls) = ((k ≡ l) × IsMentionedFirst g k ks ls) ⊎ StandsBefore (targets_of g i) k l

-- the first of the shortest cycles of i, which goes by way of these
pub record IsShortestCycle (g : Graph) (i : ℕ) (ks : List ℕ) : Type 0 where
  pub cycle : IsWay g i ks i
  pub shortest : (ls : List ℕ) → IsWay g i ls i → length ks ≤ length ls
  pub first : (ls : List ℕ) → IsWay g i ls i → length ls ≡ length ks → IsMentionedFirst g i ks ls

-- no way leads from i to itself
abbrev pub IsOnNone : Graph → ℕ → Type 0
IsOnNone g i = (ks : List ℕ) → IsWay g i ks i → ⊥

-- of the first number that is on a cycle, the first of its shortest ones, with this number first
pub record IsFirstCycle (g : Graph) (cycle : List ℕ) : Type 0 where
  pub start : ℕ
  pub by : List ℕ
  pub is : cycle ≡ start ∷ by
  pub shortest : IsShortestCycle g start by
  pub none_before : (j : ℕ) → j < start → IsOnNone g j

-- no number is on a cycle
abbrev pub HasNoCycle : Graph → Type 0
HasNoCycle g = (i : ℕ) → IsOnNone g i
