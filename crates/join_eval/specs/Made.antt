-- The values that a join makes of points, by the numbers that its plan keeps (docs/language.md, "Joins").
use Rattle.std.specs.Prelude.{◌≡◌, ℕ, ◌++◌, List, map, zip, filter_map, flat_map, length, All, nat_lt, Option, Some, None, option_and_then, if◌then◌else◌}
use Rattle.vtl_values.specs.declared.value.Value.{Value}
use Rattle.vtl_values.specs.declared.value.Value.TheVariants.{Null}
use Rattle.viral_attributes.specs.Combination.{rank, combined}
use Rattle.clause_meaning.specs.Clauses.{values_at}
use Rattle.operator_meaning.specs.pairs.Pairs.{codes_of}
use Rattle.pair_eval.specs.Plans.{value_in}
use Rattle.join_eval.specs.declared.sides.Side.{Side}
use Rattle.join_eval.specs.declared.virals.ViralPlaces.{ViralPlaces}

-- the values of an operand's measures; null for each where it has no point
abbrev pub measures_there : Side → Option (List Value) → List Value
measures_there side (Some rest) = values_at side.measures rest
measures_there side None = map (λ number. Null) side.measures

-- the value at a place that may be there, of a point that may be there
abbrev pub value_there : Option ℕ → Option (List Value) → Option Value
value_there place point = option_and_then (λ rest. value_in rest place) point

-- of two values the one of higher rank, the first where they have equal ranks
abbrev pub higher : List (List ℕ) → Value → Value → Value
higher codes a b = if nat_lt (rank codes a) (rank codes b) then b else a

-- what the values of a viral attribute combine to that are there
abbrev pub combined_value : List (Option (List Value)) → ViralPlaces → Value
combined_value points attribute = combined (codes_of attribute.codes) (filter_map (λ q. value_there q.0 q.1) (zip attribute.places points))

-- each viral attribute has a place for each point
abbrev pub AreAsMany : ℕ → List ViralPlaces → Type 0
AreAsMany count attributes = All (λ a. count ≡ length a.places) attributes

-- the measures of each operand, and then the viral attributes
abbrev pub values_by : List Side → List ViralPlaces → List (Option (List Value)) → List Value
values_by sides attributes points = flat_map (λ q. measures_there q.0 q.1) (zip sides points) ++ map (combined_value points) attributes
