-- What aggregates give on a data set (VTL 2.0 Reference Manual, aggregate operators, aggr and having; docs/language.md,
-- "Aggregates").
use Rattle.std.specs.Prelude.{ℕ, Bool, true, false, ◌||◌, ◌++◌, List, [], map, zip, filter_map, Option, None, option_map, option_and_then, is_none, if◌then◌else◌, slice_get}
use Rattle.std.specs.Bool.{then_some}
use Rattle.std.specs.Option.{option_map_or}
use Rattle.std.specs.FinMap.{keys}
use Rattle.vtl_values.specs.declared.kind.Role.{Role}
use Rattle.vtl_values.specs.declared.kind.Role.TheVariants.{Measure, Attribute, Viral}
use Rattle.vtl_values.specs.declared.structure.Codes.{Codes}
use Rattle.vtl_values.specs.declared.structure.Codes.TheVariants.{Any, Listed}
use Rattle.vtl_values.specs.declared.structure.Component.{Component}
use Rattle.vtl_values.specs.declared.value.Value.{Value}
use Rattle.vtl_values.specs.Order.{key_cmp}
use Rattle.viral_attributes.specs.Combination.{combined}
use Rattle.data_model.specs.Outcomes.{Outcome}
use Rattle.point_sets.specs.DataSets.{DataSet}
use Rattle.scalar_trees.specs.declared.tree.CheckedExpr.{CheckedExpr}
use Rattle.scalar_meaning.specs.Logic.{holds}
use Rattle.scalar_meaning.specs.Rows.{Row}
use Rattle.scalar_meaning.specs.Scalars.{meaning}
use Rattle.data_set_trees.specs.clauses.Frames.{is_role, numbers_of}
use Rattle.clause_meaning.specs.Clauses.{values_on}
use Rattle.clause_meaning.specs.Workings.{Working, outcome_of}
use Rattle.data_set_trees.specs.declared.aggregates.aggregate.AggregateItem.{AggregateItem}
use Rattle.data_set_trees.specs.declared.aggregates.aggregate.CheckedAggregate.{CheckedAggregate}
use Rattle.operator_meaning.specs.aggregates.Groups.{group_of, group_at, column, group_row}

-- ---- the items and the condition on a group

-- the values of the items, none where one is out of range
abbrev pub item_values : Row → List AggregateItem → Option (List Value)
item_values row items = values_on row (map (λ i. i.value) items)

-- the condition, if there is one, is true, and neither false nor null
abbrev pub stays : Row → Option CheckedExpr → Bool
stays row having = option_map_or (λ condition. option_map_or holds (meaning row condition) false) having true

-- an item or the condition is out of range
abbrev pub is_beyond : CheckedAggregate → Row → Bool
is_beyond a row = is_none (item_values row a.items) || option_map_or (λ condition. is_none (meaning row condition)) a.having false

-- ---- the point that a group gives

-- the values of the items of a role
abbrev pub of_role : Role → List AggregateItem → List Value → List Value
of_role role items vs = filter_map (λ q. then_some (is_role role q.0.role) q.1) (zip items vs)

-- the codes, the lowest rank first
abbrev pub codes_of : Codes → List (List ℕ)
codes_of Any = []
codes_of (Listed codes) = codes

-- the values of the viral attribute with a number over the group, combined
abbrev pub combined_at : List Component → List (List Value) → ℕ → Option Value
combined_at components points number = option_map (λ c. combined (codes_of c.codes) (column number points)) (slice_get components number)

abbrev pub viral_values : List Component → List (List Value) → List Value
viral_values components points = filter_map (combined_at components points) (numbers_of Viral components)

-- measures, attributes, and then viral attributes, where the items have these values
abbrev pub values_of_group : CheckedAggregate → List Component → List (List Value) → List Value → List Value
values_of_group a components points vs = (of_role Measure a.items vs ++ of_role Attribute a.items vs) ++ viral_values components points

-- the group's point, if it stays
abbrev pub point_of : CheckedAggregate → List Component → List Value → List (List Value) → Option (List Value)
point_of a components group points =
    if stays (group_row a.grouping group points) a.having
    then option_map (values_of_group a components points) (item_values (group_row a.grouping group points) a.items)
    else None

-- ---- the result

-- the keys of all groups
abbrev pub groups_of : CheckedAggregate → DataSet → List (List Value)
groups_of a x = map (group_of a.grouping) (keys x)

-- a point for each group that stays; out of range where a group is
abbrev pub aggregate_working : CheckedAggregate → List Component → DataSet → Working
aggregate_working a components x = record {
  evaluated = groups_of a x;
  beyond = λ group. option_map_or (λ points. is_beyond a (group_row a.grouping group points)) (group_at a.grouping x group) false;
  keys = groups_of a x;
  value = λ group. option_and_then (point_of a components group) (group_at a.grouping x group);
}

-- what aggregates give on a data set of these components
abbrev pub aggregate_meaning : CheckedAggregate → List Component → DataSet → Outcome key_cmp (List Value)
aggregate_meaning a components x = outcome_of (aggregate_working a components x)
