-- Which aggregates are well typed on components (docs/language.md, "Aggregates").
use Rattle.std.specs.Prelude.{Bool, true, ◌&&◌, List, Option, Some, None}
use Rattle.std.specs.List.{list_all}
use Rattle.vtl_values.specs.declared.kind.Kind.TheVariants.{Truth}
use Rattle.vtl_values.specs.declared.kind.Role.TheVariants.{Identifier}
use Rattle.vtl_values.specs.declared.structure.Component.{Component}
use Rattle.scalar_trees.specs.declared.tree.CheckedExpr.{CheckedExpr}
use Rattle.scalar_trees.specs.WellTyped.{Kinds, is_of_kind}
use Rattle.data_set_trees.specs.clauses.Clauses.{passes_at}
use Rattle.data_set_trees.specs.clauses.Frames.{frame_of, has_role}
use Rattle.data_set_trees.specs.clauses.WellTyped.{may_be_made}
use Rattle.data_set_trees.specs.declared.aggregates.aggregate.AggregateItem.{AggregateItem}
use Rattle.data_set_trees.specs.declared.aggregates.aggregate.CheckedAggregate.{CheckedAggregate}
use Rattle.data_set_trees.specs.aggregates.Groups.{kinds_on_groups}

-- a measure or an attribute, whose value is of its kind
abbrev pub is_item : Kinds → AggregateItem → Bool
is_item kinds i = may_be_made i.role && is_of_kind kinds i.value i.kind

abbrev pub is_condition : Kinds → Option CheckedExpr → Bool
is_condition kinds None = true
is_condition kinds (Some e) = is_of_kind kinds e Truth

-- groups are formed by identifiers, and what is worked out on them is of its kind
abbrev pub is_well_typed : List Component → CheckedAggregate → Bool
is_well_typed components a =
    list_all (passes_at (has_role Identifier) (frame_of components)) a.grouping
    && (list_all (is_item (kinds_on_groups a.grouping components)) a.items && is_condition (kinds_on_groups a.grouping components) a.having)
