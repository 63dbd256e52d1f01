-- The places of a text's characters, which count from 1: VTL 2.0 Reference Manual, `substr` and `instr`.
use Rattle.std.specs.Prelude.{◌≡◌, ℕ, ◌+◌, ◌++◌, Bool, ◌&&◌, List, [], ◌∷◌, length, map, filter, ℤ, pos, ◌+ℤ◌, int_lt, int_le, nat_eq, Option, Some, None, if◌then◌else◌}
use Rattle.std.specs.List.{enumerate_from, starts_with}

-- the place is `start` or later, and before `start + count` where there is a count
abbrev pub is_in_reach : ℤ → Option ℤ → ℕ → Bool
is_in_reach start None place = int_le start (pos place)
is_in_reach start (Some count) place = int_le start (pos place) && int_lt (pos place) (start +ℤ count)

-- the characters at the places in reach
abbrev pub substring : List ℕ → ℤ → Option ℤ → List ℕ
substring cs start count = map (λ e. e.1) (filter (λ e. is_in_reach start count e.0) (enumerate_from 1 cs))

-- the part stands in the text at this place: the characters at all lower places come before it
abbrev pub StandsAt : List ℕ → List ℕ → ℕ → Type 0
StandsAt cs part place = (before : List ℕ) × (after : List ℕ) × (cs ≡ before ++ (part ++ after)) × (place ≡ length before + 1)

-- the least place at which the part stands, where the first character has the place `at`, and 0 if it stands at none
abbrev pub place_from : ℕ → List ℕ → List ℕ → ℕ
place_from at [] part = if starts_with nat_eq [] part then at else 0
place_from at (c ∷ cs) part = if starts_with nat_eq (c ∷ cs) part then at else place_from (at + 1) cs part

abbrev pub place_of : List ℕ → List ℕ → ℕ
place_of cs part = place_from 1 cs part
