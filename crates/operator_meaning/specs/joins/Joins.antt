-- What a join gives on data sets, before the clauses inside it (VTL 2.0 Reference Manual, join operators;
-- docs/language.md, "Joins"). Keys and values stand in the order of the join's components, which have the names that the
-- operands have; the names in the result's structure don't count.
use Rattle.std.specs.Prelude.{◌≡◌, ℕ, ◌+◌, ◌*◌, Bool, false, List, [], ◌∷◌, ◌++◌, length, map, zip, filter, filter_map, flat_map, position, nat_eq, Option, Some, None, option_and_then, is_some, if◌then◌else◌}
use Rattle.std.specs.Bool.{then_some}
use Rattle.std.specs.List.{AllZip, list_any, list_all, range_with_len}
use Rattle.std.specs.FinMap.{get, keys, len}
use Rattle.vtl_values.specs.declared.kind.Role.TheVariants.{Measure}
use Rattle.vtl_values.specs.declared.structure.Component.{Component}
use Rattle.vtl_values.specs.declared.value.Value.{Value}
use Rattle.vtl_values.specs.declared.value.Value.TheVariants.{Null}
use Rattle.vtl_values.specs.Order.{key_cmp}
use Rattle.vtl_syntax.specs.declared.words.JoinFunction.{JoinFunction}
use Rattle.vtl_syntax.specs.declared.words.JoinFunction.TheVariants.{Inner, Left, Full, Cross}
use Rattle.data_model.specs.Outcomes.{Outcome}
use Rattle.point_sets.specs.DataSets.{DataSet}
use Rattle.structured_sets.specs.Fitting.{others}
use Rattle.viral_attributes.specs.Combination.{combined}
use Rattle.data_set_trees.specs.clauses.Frames.{numbers_of}
use Rattle.clause_meaning.specs.Clauses.{values_at}
use Rattle.clause_meaning.specs.Workings.{Working, outcome_of}
use Rattle.data_set_trees.specs.Components.{identifiers, virals, has_name}
use Rattle.data_set_trees.specs.Joins.{includes_all, gathered, join_identifiers}
use Rattle.operator_meaning.specs.pairs.Pairs.{viral_value, codes_of}

-- The operator with the structures of its operands and of its result.
pub record JoinOn : Type 0 where
  pub function : JoinFunction
  pub operands : List (List Component)
  pub structure : List Component

-- a join of operands of these structures, with a result of that one
abbrev pub join_on : JoinFunction → List (List Component) → List Component → JoinOn
join_on function operands structure = record { function = function; operands = operands; structure = structure }

-- ---- keys

-- the identifiers of the join, in the order of its keys
abbrev pub key_components : JoinOn → List Component
key_components j = join_identifiers j.function j.operands

-- a key has a value for each of them
abbrev pub is_key : JoinOn → List Value → Bool
is_key j key = nat_eq (length key) (length (key_components j))

-- the numbers of these components among all, by their names
abbrev pub numbers_among : List Component → List Component → List ℕ
numbers_among all cs = filter_map (λ c. position (has_name c.name) all) cs

-- runs of numbers from this one on, each as long as the keys of an operand
abbrev pub runs : ℕ → List (List Component) → List (List ℕ)
runs number [] = []
runs number (s ∷ ss) = range_with_len number (length (identifiers s)) ∷ runs (number + length (identifiers s)) ss

-- the numbers of an operand's identifiers among those of the join, by their names
abbrev pub places_of : JoinOn → List Component → List ℕ
places_of j s = numbers_among (key_components j) (identifiers s)

-- Those of each operand. In a cross join the operands' keys stand one after the other.
abbrev pub own_places : JoinOn → List (List ℕ)
own_places j = by_function j.function
  where
    by_function : JoinFunction → List (List ℕ)
    by_function Cross = runs 0 j.operands
    by_function _ = map (places_of j) j.operands

-- an operand has all identifiers
abbrev pub is_whole : JoinOn → List Component → Bool
is_whole j s = includes_all j.operands s

-- the key of the join for one of such an operand
abbrev pub join_key : JoinOn → List Component → List Value → List Value
join_key j s own = values_at (numbers_among (identifiers s) (key_components j)) own

-- those for the keys of all such operands
abbrev pub whole_keys : JoinOn → List DataSet → List (List Value)
whole_keys j sets = flat_map (λ q. map (join_key j q.0) (keys q.1)) (filter (λ q. is_whole j q.0) (zip j.operands sets))

-- all combinations of a key of each, one after the other
abbrev pub combinations : List DataSet → List (List Value)
combinations [] = [] ∷ []
combinations (a ∷ sets) = flat_map (λ own. map (λ key. own ++ key) (combinations sets)) (keys a)

-- the keys at which a join may have points
abbrev pub join_keys : JoinOn → List DataSet → List (List Value)
join_keys j sets = by_function j.function
  where
    by_function : JoinFunction → List (List Value)
    by_function Cross = combinations sets
    by_function _ = whole_keys j sets

-- ---- points

-- what each operand has at a key of the join
abbrev pub points_at : JoinOn → List DataSet → List Value → List (Option (List Value))
points_at j sets key = map (λ q. get q.1 (values_at q.0 key)) (zip (own_places j) sets)

-- whether there is a point, by which of the operands have one there
abbrev pub stays : JoinFunction → List Bool → Bool
stays Inner there = list_all (λ b. b) there
stays Left [] = false
stays Left (first ∷ rest) = first
stays Full there = list_any (λ b. b) there
stays Cross there = list_all (λ b. b) there

-- ---- values

-- the values of an operand's measures; null for each where it has no point
abbrev pub measure_values : List Component → Option (List Value) → List Value
measure_values s (Some rest) = values_at (numbers_of Measure (others s)) rest
measure_values s None = map (λ number. Null) (numbers_of Measure (others s))

-- the values of the viral attribute of this name that are there
abbrev pub values_called : List ℕ → List (List Component) → List (Option (List Value)) → List Value
values_called name operands points = filter_map (λ q. option_and_then (viral_value name (others q.0)) q.1) (zip operands points)

-- the viral attributes of all operands, those of one name as one with the combined value
abbrev pub combined_values : List (List Component) → List (Option (List Value)) → List Value
combined_values operands points = map (λ c. combined (codes_of c.codes) (values_called c.name operands points)) (gathered [] (map virals operands))

-- the measures of each operand, and then the viral attributes
abbrev pub joined_values : List (List Component) → List (Option (List Value)) → List Value
joined_values operands points = flat_map (λ q. measure_values q.0 q.1) (zip operands points) ++ combined_values operands points

-- ---- the result

-- what the operands' points come to, if there is a point
abbrev pub joined_point : JoinOn → List (Option (List Value)) → Option (List Value)
joined_point j points = then_some (stays j.function (map is_some points)) (joined_values j.operands points)

-- the points that there are; none is out of range
abbrev pub join_working : JoinOn → List DataSet → Working
join_working j sets = record {
  evaluated = [];
  beyond = λ key. false;
  keys = join_keys j sets;
  value = λ key. if is_key j key then joined_point j (points_at j sets key) else None;
}

-- what the operator gives
abbrev pub join_meaning : JoinOn → List DataSet → Outcome key_cmp (List Value)
join_meaning j sets = outcome_of (join_working j sets)

-- ---- in words

-- a key for each operand, with a value for each of its identifiers
abbrev pub AreKeysOf : List (List Component) → List (List Value) → Type 0
AreKeysOf structures own = AllZip (λ s key. length key ≡ length (identifiers s)) structures own

-- what each data set has at its own key
abbrev pub all_points : List DataSet → List (List Value) → List (Option (List Value))
all_points sets own = map (λ q. get q.0 q.1) (zip sets own)

-- how many combinations of their points there are
abbrev pub points_product : List DataSet → ℕ
points_product [] = 1
points_product (a ∷ sets) = len a * points_product sets
