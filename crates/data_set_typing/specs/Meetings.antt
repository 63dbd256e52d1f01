-- Which measures of two data sets meet.
use Rattle.std.specs.Prelude.{ℕ, Bool, false, List, Option, find, filter_map, option_map, slice_get}
use Rattle.std.specs.Option.{option_map_or}
use Rattle.data_set_trees.specs.declared.measure.Measure.{Measure}
use Rattle.data_set_trees.specs.Pairs.{is_called}

-- a measure with the one of its name
abbrev pub with_namesake : List Measure → Measure → Option (Measure × Measure)
with_namesake ns m = option_map (λ n. (m, n)) (find (is_called m.name) ns)

abbrev pub met_by_name : List Measure → List Measure → List (Measure × Measure)
met_by_name ns ms = filter_map (with_namesake ns) ms

-- a measure with the one at this place
abbrev pub opposite : List Measure → ℕ → Measure → Option (Measure × Measure)
opposite ns at m = option_map (λ n. (m, n)) (slice_get ns at)

-- the measure at this place has the name of the other
abbrev pub is_opposite : List Measure → ℕ → Measure → Bool
is_opposite ns at m = option_map_or (is_called m.name) (slice_get ns at) false
