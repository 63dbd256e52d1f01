-- The order in which statements come, of a graph that has for each statement those that it uses.
use Rattle.std.specs.Prelude.{◌≡◌, ◌≢◌, ◌<◌, ◌≤◌, ℕ, zero, suc, List, [], ◌∷◌, ◌++◌, Bool, true, false, not, ◌&&◌, Option, Some, None, length, find, set, replicate, Contains, AllPairs, ⊤}
use Rattle.std.specs.List.{All, list_any}
use Rattle.shortest_cycles.specs.Paths.{Graph, LeadsTo, targets_of}
use Rattle.shortest_cycles.specs.Cycles.{count_from}
use Rattle.shortest_cycles.specs.Tables.{mark_at}

-- it isn't among those, and all that it uses are
pub record CanCome (g : Graph) (done : List ℕ) (i : ℕ) : Type 0 where
  pub below : i < length g
  pub new : Contains done i → ⊥
  pub ready : All (Contains done) (targets_of g i)

-- after these statements come those, each after the ones that it uses
abbrev pub FollowUses : Graph → List ℕ → List ℕ → Type 0
FollowUses g done [] = ⊤
FollowUses g done (i ∷ is) = All (Contains done) (targets_of g i) × FollowUses g (done ++ i ∷ []) is

-- of several that could come next, the first in the script does
abbrev pub FirstsCome : Graph → List ℕ → List ℕ → Type 0
FirstsCome g done [] = ⊤
FirstsCome g done (i ∷ is) = ((j : ℕ) → CanCome g done j → i ≤ j) × FirstsCome g (done ++ i ∷ []) is

-- each statement stands once in the order, after those that it uses, and before all later ones that could stand there
pub record IsOrder (g : Graph) (order : List ℕ) : Type 0 where
  pub all : length order ≡ length g
  pub below : All (λ i. i < length g) order
  pub once : AllPairs (λ i j. i ≢ j) order
  pub follows : FollowUses g [] order
  pub firsts : FirstsCome g [] order

-- each number to which one leads is one of the graph
abbrev pub LeadsWithin : Graph → Type 0
LeadsWithin g = (i k : ℕ) → LeadsTo g i k → k < length g

-- ---- the same as tests, where those that have come are marked

-- it uses one that isn't marked
abbrev pub waits : Graph → List Bool → ℕ → Bool
waits g marks i = list_any (λ k. not (mark_at marks k)) (targets_of g i)

abbrev pub can_come : Graph → List Bool → ℕ → Bool
can_come g marks i = not (mark_at marks i) && not (waits g marks i)

-- the first that can come
abbrev pub next_of : Graph → List Bool → Option ℕ
next_of g marks = find (can_come g marks) (count_from 0 (length g))

-- what comes from here on, if one can come
abbrev pub from_next : (ℕ → List ℕ) → Option ℕ → List ℕ
from_next rest None = []
from_next rest (Some i) = i ∷ rest i

-- where these have come, so many come after them, as long as one can
abbrev pub order_after : Graph → List Bool → ℕ → List ℕ
order_after g marks zero = []
order_after g marks (suc n) = from_next (λ i. order_after g (set marks i true) n) (next_of g marks)

-- the order, where there is one: at each step the first that can come does
abbrev pub order_of : Graph → List ℕ
order_of g = order_after g (replicate (length g) false) (length g)
