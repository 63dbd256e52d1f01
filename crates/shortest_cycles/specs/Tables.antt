-- Which numbers come to which by how many steps, as tables.
use Rattle.std.specs.Prelude.{◌≡◌, ℕ, zero, suc, List, [], ◌∷◌, ◌++◌, Bool, false, Option, Some, None, length, map, find, slice_get, unwrap_or}
use Rattle.std.specs.List.{list_any}
use Rattle.std.specs.Option.{option_and_then}
use Rattle.shortest_cycles.specs.Paths.{Graph, contains, targets_of}

abbrev pub mark_at : List Bool → ℕ → Bool
mark_at marks n = unwrap_or (slice_get marks n) false

abbrev pub first_marked : List ℕ → List Bool → Option ℕ
first_marked ns marks = find (mark_at marks) ns

-- which numbers come to j by n + 1 steps
abbrev pub row : Graph → ℕ → ℕ → List Bool
row g j zero = map (λ targets. contains targets j) g
row g j (suc n) = map (list_any (mark_at (row g j n))) g

-- those by 1 step, by 2 and so on, so many
abbrev pub rows : Graph → ℕ → ℕ → List (List Bool)
rows g j zero = []
rows g j (suc n) = rows g j n ++ row g j n ∷ []

abbrev pub ways : Graph → ℕ → List (List Bool)
ways g j = rows g j (length g)

abbrev pub is_on : List (List Bool) → ℕ → ℕ → Bool
is_on table i n = mark_at (unwrap_or (slice_get table n) []) i

abbrev pub next_on : Graph → List (List Bool) → ℕ → ℕ → Option ℕ
next_on g table n i = option_and_then (first_marked (targets_of g i)) (slice_get table n)

-- after a step: the one that is found is put at the end, or nothing is
abbrev pub IsNext : Option ℕ → ℕ → List ℕ → ℕ → List ℕ → Type 0
IsNext None last before next after = (next ≡ last) × (after ≡ before)
IsNext (Some k) last before next after = (next ≡ k) × (after ≡ before ++ k ∷ [])
