use Rattle.std.proofs.Common.{◌≡◌, Ok}
use Rattle.std.proofs.lemmas.Result.{IfOk-weaker}
use Rattle.vtl_values.specs.Structures.{IsStructure}
use Rattle.data_set_trees.specs.aggregates.Aggregates.{aggregate_checked}
use Rattle.data_set_trees.specs.aggregates.Results.{grouped}
use Rattle.aggregate_typing.proofs.Structures.{aggregate_gives}
use Rattle.aggregate_typing.proofs.aggregates.aggregate_typed.Goals as goal

pub returns-clause-structure : goal.returns-clause-structure
returns-clause-structure c = λ is.
    IfOk-weaker c.aggregate_checked.result (λ a. aggregate_checked c.args.function c.args.place c.args.groups.now c.args.components.now ≡ Ok a) (λ a. IsStructure (grouped a c.args.components.now))
    (λ a. aggregate_gives c.args.function c.args.place c.args.groups.now c.args.components.now a is) c.aggregate_checked.ensures.ok
