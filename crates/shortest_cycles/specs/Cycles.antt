-- The first cycle, as a function of the graph.
use Rattle.std.specs.Prelude.{◌≡◌, ◌≢◌, ℕ, zero, suc, List, [], ◌∷◌, Bool, Option, Some, None, length, find}
use Rattle.std.specs.List.{list_any}
use Rattle.std.specs.Option.{option_map}
use Rattle.shortest_cycles.specs.Firsts.{first_some}
use Rattle.shortest_cycles.specs.Paths.{Graph, contains, targets_of, IsWay, IsShortestCycle}

-- n, n + 1 and so on, so many
abbrev pub count_from : ℕ → ℕ → List ℕ
count_from n zero = []
count_from n (suc m) = n ∷ count_from (suc n) m

-- i comes to j by n + 1 steps
abbrev pub comes_to : Graph → ℕ → ℕ → ℕ → Bool
comes_to g zero j i = contains (targets_of g i) j
comes_to g (suc n) j i = list_any (comes_to g n j) (targets_of g i)

-- what comes from the number that is found, if one is
abbrev pub from_found : (ℕ → List ℕ) → List ℕ → Option ℕ → List ℕ
from_found rest none None = none
from_found rest none (Some k) = k ∷ rest k

-- what stands between i and j on the way of n + 1 steps that is mentioned first
abbrev pub between : Graph → ℕ → ℕ → ℕ → List ℕ
between g zero j i = []
between g (suc n) j i = from_found (between g n j) (between g n j i) (find (comes_to g n j) (targets_of g i))

-- the first of the shortest ways of i to itself, i first
abbrev pub cycle_of : Graph → ℕ → Option (List ℕ)
cycle_of g i = option_map (λ n. i ∷ between g n i i) (find (λ n. comes_to g n i i) (count_from 0 (length g)))

-- that of the first number that comes to itself
abbrev pub first_cycle : Graph → Option (List ℕ)
first_cycle g = first_some (cycle_of g) (count_from 0 (length g))

-- what is found at a number is the first of its shortest cycles
abbrev pub FindsShortest : Type 0
FindsShortest = (g : Graph) (i : ℕ) (c : List ℕ) → cycle_of g i ≡ Some c → (ks : List ℕ) × (c ≡ i ∷ ks) × IsShortestCycle g i ks

-- one is found where there is a cycle
abbrev pub FindsCycles : Type 0
FindsCycles = (g : Graph) (i : ℕ) (ks : List ℕ) → IsWay g i ks i → cycle_of g i ≢ None
