-- Which components aggregates give (docs/language.md, "Aggregates").
use Rattle.std.specs.Prelude.{ℕ, not, ◌++◌, List, map, filter_map, slice_get}
use Rattle.vtl_values.specs.declared.kind.Role.TheVariants.{Attribute, Viral}
use Rattle.vtl_values.specs.declared.structure.Component.{Component}
use Rattle.data_set_trees.specs.clauses.After.{made}
use Rattle.data_set_trees.specs.clauses.Frames.{frame_of, has_role, kept, numbers_of, by_role}
use Rattle.data_set_trees.specs.declared.aggregates.aggregate.AggregateItem.{AggregateItem}
use Rattle.data_set_trees.specs.declared.aggregates.aggregate.CheckedAggregate.{CheckedAggregate}

-- what is worked out has no code list
abbrev pub made_by : AggregateItem → Component
made_by i = made i.role i.kind i.name

-- the components with these numbers, in this order
abbrev pub with_numbers : List Component → List ℕ → List Component
with_numbers components numbers = filter_map (slice_get components) numbers

-- what a group has in common and its viral attributes, and then what is worked out, not yet by role
abbrev pub unordered : CheckedAggregate → List Component → List Component
unordered a components = with_numbers components (a.grouping ++ numbers_of Viral components) ++ map made_by a.items

-- the components of the result
abbrev pub grouped : CheckedAggregate → List Component → List Component
grouped a components = (by_role (frame_of (unordered a components))).components

-- all components but plain attributes
abbrev pub without_attributes : List Component → List Component
without_attributes components = (kept (λ number c. not (has_role Attribute c)) (frame_of components)).components
