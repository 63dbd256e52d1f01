-- Groups of the points of a data set (docs/language.md, "Aggregates").
use Rattle.std.specs.Prelude.{ℕ, pos, Bool, ◌++◌, List, [], map, filter, find, zip, length, nat_eq, slice_get, Option, Some, None, unwrap_or}
use Rattle.std.specs.Option.{option_map_or}
use Rattle.std.specs.FinMap.{entries}
use Rattle.std.specs.Ordering.{eq_by_cmp}
use Rattle.vtl_values.specs.declared.value.Value.{Value}
use Rattle.vtl_values.specs.declared.value.Value.TheVariants.{Null, Integer}
use Rattle.vtl_values.specs.Order.{key_cmp}
use Rattle.point_sets.specs.DataSets.{DataSet}
use Rattle.scalar_meaning.specs.Rows.{Row}
use Rattle.clause_meaning.specs.Clauses.{values_at}
use Rattle.operator_meaning.specs.aggregates.Reductions.{reduced}

-- A group's key has the values of the identifiers by which groups are formed, given by their numbers. Without any it is
-- empty, and all points are one group.
abbrev pub group_of : List ℕ → List Value → List Value
group_of grouping key = values_at grouping key

-- a point, its key and its other values, is in the group with this key
abbrev pub is_in : List ℕ → List Value → List Value × List Value → Bool
is_in grouping group point = eq_by_cmp key_cmp group (group_of grouping point.0)

-- the points in a group, each with all its values, in the order of their keys
abbrev pub points_in : List ℕ → DataSet → List Value → List (List Value)
points_in grouping a group = map (λ point. point.0 ++ point.1) (filter (is_in grouping group) (entries a))

abbrev pub if_any : {A : Type 0} → List A → Option (List A)
if_any [] = None
if_any xs = Some xs

-- the points of the group with this key; there is none without points
abbrev pub group_at : List ℕ → DataSet → List Value → Option (List (List Value))
group_at grouping a group = if_any (points_in grouping a group)

-- ---- what is worked out on a group

-- the values of a component over a group
abbrev pub column : ℕ → List (List Value) → List Value
column number points = map (λ values. unwrap_or (slice_get values number) Null) points

-- the value in a group's key of the identifier with a number; null where groups aren't formed by it
abbrev pub value_in : List ℕ → List Value → ℕ → Value
value_in grouping group number = option_map_or (λ q. q.1) (find (λ q. nat_eq number q.0) (zip grouping group)) Null

-- an identifier by which groups are formed has the value that all points have in common; aggregates go over the points
abbrev pub group_row : List ℕ → List Value → List (List Value) → Row
group_row grouping group points = record {
  component = value_in grouping group;
  aggregated = λ f number. reduced f (column number points);
  counted = Integer (pos (length points));
}
