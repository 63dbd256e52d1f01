-- Combinations: a row of each operand.
use Rattle.std.specs.Prelude.{ℕ, ◌+◌, List, [], ◌∷◌, filter, flat_map, length, map}
use Rattle.std.specs.List.{range_with_len}
use Rattle.std.specs.Ordering.{nat_cmp}
use Rattle.cross_joins.specs.Rows.{RowValues, is_chosen}
use Rattle.cross_joins.specs.declared.rows.Side.{Side}

-- a row of an operand, and one of each after it
abbrev pub Combination : Type 0
Combination = List RowValues

-- each combination with each of these rows before its others
abbrev pub with_each_first : List RowValues → List Combination → List Combination
with_each_first rows combinations = flat_map (λ r. map (λ c. r ∷ c) combinations) rows

-- all combinations of a row of each list
abbrev pub combinations_of : List (List RowValues) → List Combination
combinations_of [] = [] ∷ []
combinations_of (rows ∷ lists) = with_each_first rows (combinations_of lists)

-- of the rows of the operands from this number on, those for combinations of points of a side of which the first changed row is from the operand `first`
abbrev pub choices : Side → ℕ → ℕ → List (List RowValues) → List (List RowValues)
choices side first number [] = []
choices side first number (rows ∷ lists) = filter (is_chosen side (nat_cmp number first)) rows ∷ choices side first (number + 1) lists

-- the combinations of points of a side in which the first changed row is from this operand
abbrev pub first_changed_at : Side → List (List RowValues) → ℕ → List Combination
first_changed_at side rows first = combinations_of (choices side first 0 rows)

-- those in which a row is changed, each once
abbrev pub changed_combinations : Side → List (List RowValues) → List Combination
changed_combinations side rows = flat_map (first_changed_at side rows) (range_with_len 0 (length rows))
