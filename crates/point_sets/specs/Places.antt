-- Where a key stands among points, or would stand.
use Rattle.std.specs.Prelude.{◌≡◌, ℕ, ◌≤◌, List, Some, length, slice_get}
use Rattle.std.specs.Option.{option_map}
use Rattle.std.specs.List.Sorted.{IsPartitionPoint}
use Rattle.std.specs.FinMap.Entries.{where_key}
use Rattle.std.specs.Ordering.{is_lt}
use Rattle.std.specs.declared.cmp.Ordering.{Ordering}
use Rattle.std.specs.declared.cmp.Ordering.TheVariants.{Less, Greater}
use Rattle.vtl_values.specs.Order.{key_cmp}
use Rattle.vtl_values.specs.declared.value.Value.{Value}
use Rattle.point_sets.specs.declared.point.Point.{Point}

-- the point at the place has the key
abbrev pub IsAt : List Point → List Value → ℕ → Type 0
IsAt ps k at = option_map (λ p. p.key) (slice_get ps at) ≡ Some k

-- the keys before the place are below the key, and those from it on above
pub record IsGap (ps : List Point) (k : List Value) (at : ℕ) : Type 0 where
  pub within : at ≤ length ps
  pub parted : IsPartitionPoint (λ p. key_cmp p.key k ≡ Less) (λ p. key_cmp p.key k ≡ Greater) ps at

-- the entries whose keys are below a key, and those whose keys are above it
abbrev pub below : {K X : Type 0} → (K → K → Ordering) → K → List (K × X) → List (K × X)
below R k es = where_key R (λ j. is_lt (R j k)) es

abbrev pub above : {K X : Type 0} → (K → K → Ordering) → K → List (K × X) → List (K × X)
above R k es = where_key R (λ j. is_lt (R k j)) es
