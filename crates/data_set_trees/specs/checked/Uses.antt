-- Operators on time series, and uses of rulesets, where they are well typed (docs/language.md, "Time series", "Rulesets").
use Rattle.std.specs.Prelude.{ℕ, Bool, true, false, ◌&&◌, List, map, nat_abs, nat_le, slice_get, Option}
use Rattle.std.specs.List.{list_all}
use Rattle.std.specs.Option.{option_map_or}
use Rattle.vtl_values.specs.declared.kind.Kind.TheVariants.{Text, Truth}
use Rattle.vtl_values.specs.declared.kind.Role.TheVariants.{Identifier}
use Rattle.vtl_values.specs.declared.structure.Component.{Component}
use Rattle.scalar_trees.specs.declared.tree.CheckedExpr.{CheckedExpr}
use Rattle.scalar_trees.specs.WellTyped.{is_kind, is_of_kind}
use Rattle.scalar_trees.specs.declared.typing.scope.Basis.TheVariants.{Point}
use Rattle.scalar_trees.specs.typing.Scopes.{kinds_of, column_of}
use Rattle.data_set_trees.specs.clauses.Frames.{has_role}
use Rattle.data_set_trees.specs.declared.times.time.CheckedTime.{CheckedTime}
use Rattle.data_set_trees.specs.declared.times.time.CheckedTime.TheVariants as time
use Rattle.data_set_trees.specs.times.Times.{is_period, takes_kinds, MOST_PLACES}
use Rattle.data_set_trees.specs.declared.rules.rules.CheckedDatapoint.{CheckedDatapoint}
use Rattle.data_set_trees.specs.declared.rules.rules.CheckedHierarchy.{CheckedHierarchy}
use Rattle.data_set_trees.specs.declared.rules.rules.CheckedHierarchy.TheVariants.{Computed, Checked}
use Rattle.data_set_trees.specs.declared.rules.rules.HierarchyContent.{HierarchyContent}
use Rattle.data_set_trees.specs.declared.rules.rules.PointRule.{PointRule}
use Rattle.data_set_trees.specs.aggregates.Aggregates.{are_numeric}
use Rattle.data_set_trees.specs.rules.Hierarchies.{has_one_measure}

-- the component with this number is such a one
abbrev pub is_at : (Component → Bool) → List Component → ℕ → Bool
is_at test components number = option_map_or test (slice_get components number) false

-- ---- time series

-- the period is a string identifier `TIME_PERIOD`, sums are of numeric measures, and a shift goes 10,000 places at most
abbrev pub is_series : List Component → CheckedTime → Bool
is_series components (time.Of f period) = is_at is_period components period && takes_kinds f components
is_series components (time.Shift places period) = is_at is_period components period && nat_le (nat_abs places) MOST_PLACES
is_series components (time.Fill span period) = is_at is_period components period

-- ---- rulesets

-- a boolean on the components
abbrev pub is_truth : List Component → CheckedExpr → Bool
is_truth components e = is_of_kind (kinds_of (map column_of components) Point) e Truth

abbrev pub is_condition : List Component → Option CheckedExpr → Bool
is_condition components condition = option_map_or (is_truth components) condition true

abbrev pub is_point_rule : List Component → PointRule → Bool
is_point_rule components r = is_condition components r.condition && is_truth components r.value

-- the conditions and the values of rules are booleans
abbrev pub is_datapoint : List Component → CheckedDatapoint → Bool
is_datapoint components d = list_all (is_point_rule components) d.rules

-- items are values of a string identifier
abbrev pub has_items : Component → Bool
has_items c = has_role Identifier c && is_kind c.kind Text

-- there is one measure, a numeric one, and the conditions of rules are booleans
abbrev pub is_content : List Component → HierarchyContent → Bool
is_content components h = (is_at has_items components h.component && (has_one_measure components && are_numeric components)) && list_all (λ r. is_condition components r.condition) h.rules

abbrev pub is_hierarchy : List Component → CheckedHierarchy → Bool
is_hierarchy components (Computed content input output) = is_content components content
is_hierarchy components (Checked content input output) = is_content components content
