-- How several values of a viral attribute combine (docs/language.md, "Data set operators").
use Rattle.std.specs.Prelude.{◌≡◌, ◌≤◌, ◌⊎◌, ℕ, suc, List, ◌++◌, ◌∷◌, [], Bool, ◌&&◌, Option, Contains, All, nat_eq, nat_lt, nat_le, position, slice_index_or, ⊤}
use Rattle.std.specs.Option.{option_map_or}
use Rattle.std.specs.List.{list_all}
use Rattle.std.specs.Cmp.Lexicographic.{pointwise}
use Rattle.vtl_values.specs.declared.value.Value.{Value}
use Rattle.vtl_values.specs.declared.value.Value.TheVariants.{Null, Truth, Integer, Number, Text}

-- a value of a viral attribute is null or one of its codes
abbrev pub IsCodeOrNull : List (List ℕ) → Value → Type 0
IsCodeOrNull codes Null = ⊤
IsCodeOrNull codes (Truth b) = ⊥
IsCodeOrNull codes (Integer n) = ⊥
IsCodeOrNull codes (Number d) = ⊥
IsCodeOrNull codes (Text code) = Contains codes code

-- the rank of a value: a code's place in the list, from 1 on; null stands below all codes
abbrev pub rank : List (List ℕ) → Value → ℕ
rank codes Null = 0
rank codes (Truth b) = 0
rank codes (Integer n) = 0
rank codes (Number d) = 0
rank codes (Text code) = option_map_or suc (position (λ listed. pointwise nat_eq listed code) codes) 0

-- whether a value isn't null and no other of the values has a higher rank
abbrev pub is_highest : List (List ℕ) → List Value → Value → Bool
is_highest codes values value = nat_lt 0 (rank codes value) && list_all (λ other. nat_le (rank codes other) (rank codes value)) values

-- the first place of a value with the highest rank; there is none where all values are null
abbrev pub place_of_highest : List (List ℕ) → List Value → Option ℕ
place_of_highest codes values = position (is_highest codes values) values

-- the value to which several combine: that with the highest rank; null where all are null, or where there is none
abbrev pub combined : List (List ℕ) → List Value → Value
combined codes values = option_map_or (λ place. slice_index_or values place Null) (place_of_highest codes values) Null

-- the combined value is null or one of the values, and none of them has a higher rank
pub record IsTheHighest (codes : List (List ℕ)) (values : List Value) (value : Value) : Type 0 where
  pub among : (value ≡ Null) ⊎ Contains values value
  pub none_higher : All (λ other. rank codes other ≤ rank codes value) values

-- values combine to the same in parts
abbrev pub CombinesInParts : List (List ℕ) → Type 0
CombinesInParts codes = (xs ys : List Value) → combined codes (xs ++ ys) ≡ combined codes (combined codes xs ∷ combined codes ys ∷ [])
