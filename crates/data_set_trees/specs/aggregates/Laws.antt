-- What holds of aggregates.
use Rattle.std.specs.Prelude.{◌≡◌, Bool, true, List, Option, Ok, All}
use Rattle.vtl_values.specs.declared.place.Place.{Place}
use Rattle.vtl_values.specs.declared.structure.Component.{Component}
use Rattle.vtl_values.specs.Structures.{IsStructure}
use Rattle.vtl_syntax.specs.declared.expr.Grouping.{Grouping}
use Rattle.scalar_trees.specs.declared.typing.typed.Typed.{Typed}
use Rattle.data_set_trees.specs.clauses.WellTyped.{may_be_made}
use Rattle.data_set_trees.specs.declared.aggregates.aggregate.AggregateItem.{AggregateItem}
use Rattle.data_set_trees.specs.declared.aggregates.aggregate.CheckedAggregate.{CheckedAggregate}
use Rattle.data_set_trees.specs.aggregates.Aggregates.{groups_typed}
use Rattle.data_set_trees.specs.aggregates.Results.{grouped}

-- what typing gives leaves a structure of one
abbrev pub GivesStructures : Type 0
GivesStructures = (place : Place) (grouping : Option Grouping) (fit : Bool) (items : List AggregateItem) (having : Option Typed) (components : List Component) (a : CheckedAggregate) → IsStructure components
    → All (λ i. may_be_made i.role ≡ true) items → groups_typed place grouping fit items having components ≡ Ok a → IsStructure (grouped a components)
