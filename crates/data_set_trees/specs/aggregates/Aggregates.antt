-- What aggregates are checked to be, or their first fault, which stands at the word of the call or clause
-- (docs/language.md, "Aggregates", "Faults of aggregates").
use Rattle.std.specs.Prelude.{ℕ, Bool, true, false, not, ◌||◌, List, [], ◌∷◌, length, nat_le, codes, filter_map, slice_get, Option, Some, None, option_map, option_and_then, is_some, Result, Ok}
use Rattle.std.specs.List.{list_all}
use Rattle.std.specs.Option.{option_map_or}
use Rattle.vtl_values.specs.Texts.{same_text}
use Rattle.vtl_values.specs.declared.kind.Kind.TheVariants.{Truth, Integer}
use Rattle.vtl_values.specs.declared.kind.Role.TheVariants.{Identifier, Measure}
use Rattle.vtl_values.specs.declared.place.Place.{Place}
use Rattle.vtl_values.specs.declared.structure.Component.{Component}
use Rattle.vtl_syntax.specs.declared.expr.Expr.{Expr}
use Rattle.vtl_syntax.specs.declared.expr.Grouping.{Grouping}
use Rattle.vtl_syntax.specs.declared.expr.Groups.{Groups, out-Groups}
use Rattle.vtl_syntax.specs.declared.expr.Item.{Item, out-Item}
use Rattle.vtl_syntax.specs.declared.words.AggregateFunction.{AggregateFunction}
use Rattle.vtl_syntax.specs.declared.words.AggregateFunction.TheVariants.{Sum, Avg, Count, Min, Max, Median}
use Rattle.vtl_syntax.specs.declared.words.ItemRole.{ItemRole}
use Rattle.scalar_trees.specs.Kinds.{NUMERIC, agreed, aggregate_takes, aggregate_gives}
use Rattle.scalar_trees.specs.declared.tree.CheckedExpr.{CheckedExpr}
use Rattle.scalar_trees.specs.declared.tree.CheckedExpr.TheVariants as tree
use Rattle.scalar_trees.specs.declared.typing.scope.Basis.TheVariants.{Group}
use Rattle.scalar_trees.specs.declared.typing.scope.Scope.{Scope}
use Rattle.scalar_trees.specs.declared.typing.stop.Fault.TheVariants.{UnknownComponent, WrongType, WrongRole, NameTwice, TooManyComponents}
use Rattle.scalar_trees.specs.declared.typing.stop.Refusal.{Refusal}
use Rattle.scalar_trees.specs.declared.typing.typed.Typed.{Typed}
use Rattle.scalar_trees.specs.typing.Scalars.{typed, wanted, whole_kind}
use Rattle.scalar_trees.specs.typing.Steps.{◌>>=◌}
use Rattle.data_set_trees.specs.clauses.Frames.{frame_of, has_role, numbers_of}
use Rattle.data_set_trees.specs.clauses.Clauses.{MOST_COMPONENTS, demands, bare_number_of, passes_at, all_differ, role_of}
use Rattle.data_set_trees.specs.declared.aggregates.aggregate.AggregateItem.{AggregateItem}
use Rattle.data_set_trees.specs.declared.aggregates.aggregate.CheckedAggregate.{CheckedAggregate}
use Rattle.data_set_trees.specs.aggregates.Groups.{grouping_numbers, scope_of_groups}
use Rattle.data_set_trees.specs.aggregates.Results.{unordered}

abbrev pub Answer : Type 0
Answer = Result CheckedAggregate Refusal

-- ---- what is worked out

-- an item of `aggr`, whose value as a whole expression is a boolean where it is null
abbrev pub item_typed : Option ItemRole → List ℕ → Typed → AggregateItem
item_typed stated name value = record { name = name; role = role_of stated None; kind = whole_kind Truth value.kind; value = value.tree }

-- the aggregate of a component with its number, as a measure of its name
abbrev pub aggregate_of : AggregateFunction → ℕ → Component → AggregateItem
aggregate_of f number c = record { name = c.name; role = Measure; kind = aggregate_gives f c.kind; value = tree.Aggregate f number }

-- on each measure
abbrev pub on_measures : AggregateFunction → List Component → List AggregateItem
on_measures f components = filter_map (λ number. option_map (aggregate_of f number) (slice_get components number)) (numbers_of Measure components)

-- the measure in which `count` on a data set has the number of points
abbrev pub points_counted : AggregateItem
points_counted = record { name = codes "int_var"; role = Measure; kind = Integer; value = tree.CountAll }

-- what an aggregate on a data set works out
abbrev pub items_of : AggregateFunction → List Component → List AggregateItem
items_of Count components = points_counted ∷ []
items_of Sum components = on_measures Sum components
items_of Avg components = on_measures Avg components
items_of Min components = on_measures Min components
items_of Max components = on_measures Max components
items_of Median components = on_measures Median components

-- its kind is one that the aggregate takes, if it is a measure
abbrev pub takes : AggregateFunction → Component → Bool
takes f c = not (has_role Measure c) || is_some (agreed (aggregate_takes f) (Some c.kind ∷ []))

abbrev pub takes_all : AggregateFunction → List Component → Bool
takes_all f components = list_all (takes f) components

-- all measures are integers or numbers
abbrev pub are_numeric : List Component → Bool
are_numeric components = list_all (λ c. not (has_role Measure c) || is_some (agreed NUMERIC (Some c.kind ∷ []))) components

-- ---- groups

abbrev pub grouping_of : Option Groups → Option Grouping
grouping_of groups = option_map (λ g. (out-Groups g).grouping) groups

abbrev pub having_of : Option Groups → Option Expr
having_of groups = option_and_then (λ g. (out-Groups g).having) groups

abbrev pub names_in : Option Grouping → List (List ℕ)
names_in None = []
names_in (Some g) = g.names

abbrev pub are_known : List (List ℕ) → List Component → Bool
are_known names components = list_all (λ name. is_some (bare_number_of (frame_of components) name)) names

abbrev pub is_identifier_called : List Component → List ℕ → Bool
is_identifier_called components name = option_map_or (passes_at (has_role Identifier) (frame_of components)) (bare_number_of (frame_of components) name) false

-- groups are formed by identifiers
abbrev pub may_group : List (List ℕ) → List Component → Bool
may_group names components = list_all (is_identifier_called components) names

-- no two components have one name
abbrev pub names_differ : List Component → Bool
names_differ components = all_differ (λ a b. same_text a.name b.name) components

abbrev pub has_room : List Component → Bool
has_room components = nat_le (length components) MOST_COMPONENTS

-- the condition is a boolean
abbrev pub condition_typed : Place → Option Typed → Result (Option CheckedExpr) Refusal
condition_typed place None = Ok None
condition_typed place (Some t) = wanted place Truth t >>= (λ c. Ok (Some c))

abbrev pub aggregate : List ℕ → List AggregateItem → Option CheckedExpr → CheckedAggregate
aggregate grouping items having = record { grouping = grouping; items = items; having = having }

-- where these identifiers, items and condition go together
abbrev pub joined : Place → List (List ℕ) → CheckedAggregate → List Component → Answer
joined place names a components =
    demands place ((may_group names components, WrongRole) ∷ (names_differ (unordered a components), NameTwice) ∷ (has_room (unordered a components), TooManyComponents) ∷ []) >>= (λ met. Ok a)

-- The names of the grouping are known, the items' kinds fit, the condition is a boolean, and then the rest.
abbrev pub groups_typed : Place → Option Grouping → Bool → List AggregateItem → Option Typed → List Component → Answer
groups_typed place grouping fit items having components =
    demands place ((are_known (names_in grouping) components, UnknownComponent) ∷ (fit, WrongType) ∷ [])
    >>= (λ met. condition_typed place having
    >>= (λ condition. joined place (names_in grouping) (aggregate (grouping_numbers grouping components) items condition) components))

-- ---- aggregates

abbrev pub scope_on : Option Groups → List Component → Scope
scope_on groups components = scope_of_groups (grouping_numbers (grouping_of groups) components) components

-- the condition is worked out on a group, if there is one
abbrev pub condition_checked : Scope → Option Expr → Result (Option Typed) Refusal
condition_checked scope None = Ok None
condition_checked scope (Some e) = typed scope Group e >>= (λ t. Ok (Some t))

-- `sum(ds groups)` and its like, on a data set of these components
abbrev pub aggregate_checked : AggregateFunction → Place → Option Groups → List Component → Answer
aggregate_checked f place groups components =
    condition_checked (scope_on groups components) (having_of groups)
    >>= (λ having. groups_typed place (grouping_of groups) (takes_all f components) (items_of f components) having components)

-- an item, whose expression is worked out on a group
abbrev pub item_checked : Scope → Item → Result AggregateItem Refusal
item_checked scope i = typed scope Group (out-Item i).expr >>= (λ t. Ok (item_typed (out-Item i).role (out-Item i).name t))

-- the items, or the first fault of the first that has one
abbrev pub items_checked : Scope → List Item → Result (List AggregateItem) Refusal
items_checked scope [] = Ok []
items_checked scope (i ∷ is) = item_checked scope i >>= (λ c. items_checked scope is >>= (λ cs. Ok (c ∷ cs)))

-- `ds[aggr items groups]`: its expressions first, in order
abbrev pub aggr_checked : Place → List Item → Option Groups → List Component → Answer
aggr_checked place items groups components =
    items_checked (scope_on groups components) items
    >>= (λ checked. condition_checked (scope_on groups components) (having_of groups)
    >>= (λ having. groups_typed place (grouping_of groups) true checked having components))
