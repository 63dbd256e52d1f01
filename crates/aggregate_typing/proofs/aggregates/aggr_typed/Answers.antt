use Rattle.std.proofs.Common.{◌≡◌, Ok}
use Rattle.std.proofs.lemmas.Result.{IfOk-weaker}
use Rattle.vtl_values.specs.Structures.{IsStructure}
use Rattle.data_set_trees.specs.aggregates.Aggregates.{aggr_checked}
use Rattle.data_set_trees.specs.aggregates.Results.{grouped}
use Rattle.aggregate_typing.proofs.Structures.{aggr_gives}
use Rattle.aggregate_typing.proofs.aggregates.aggr_typed.Goals as goal

pub returns-clause-structure : goal.returns-clause-structure
returns-clause-structure c = λ is.
    IfOk-weaker c.aggr_checked.result (λ a. aggr_checked c.args.place c.args.items.now c.args.groups.now c.args.components.now ≡ Ok a) (λ a. IsStructure (grouped a c.args.components.now))
    (λ a. aggr_gives c.args.place c.args.items.now c.args.groups.now c.args.components.now a is) c.aggr_checked.ensures.ok
