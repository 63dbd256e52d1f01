-- Small maps over numbers, on which the definitions are worked.
use Rattle.std.specs.Prelude.{ℕ, ◌+◌, List, Some}
use Rattle.std.specs.Ordering.{nat_cmp}
use Rattle.std.specs.FinMap.{FinMap, from_entries}
use Rattle.data_model.specs.Maps.{key_by_key, matched}
use Rattle.data_model.specs.Deltas.{Pair, DeltaOf}

abbrev pub points : List (ℕ × ℕ) → FinMap nat_cmp ℕ
points es = from_entries es

abbrev pub changes : List (ℕ × Pair ℕ) → DeltaOf nat_cmp ℕ
changes es = from_entries es

-- the sum of two maps, at the keys of both
abbrev pub sum_of : FinMap nat_cmp ℕ → FinMap nat_cmp ℕ → FinMap nat_cmp ℕ
sum_of m n = key_by_key (λ k p. Some (p.0 + p.1)) (matched m n)
