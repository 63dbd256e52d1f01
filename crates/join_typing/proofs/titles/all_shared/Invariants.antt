use Rattle.std.proofs.Common.{◌≡◌, ◌++◌, map, drop}
use Rattle.vtl_values.specs.declared.structure.Component.{Component}
use Rattle.data_set_trees.specs.Joins.{shared, owners}
use Rattle.join_typing.specs.Joining.{aliased}
use Rattle.join_typing.proofs.titles.all_shared.Given as goal

abbrev pub invariant-loop-component : goal.invariant-loop-component
invariant-loop-component l =
    let titles = λ (c : Component). shared (owners (map aliased l.operands) c) in
    map titles l.identifiers ≡ l.all ++ map titles (drop l.component-index l.identifiers)
