use Rattle.std.proofs.Common.{◌≡◌, ◌++◌, [], ◌∷◌, Some, List, Option, ℕ, map, drop}
use Rattle.std.specs.List.{filter}
use Rattle.vtl_values.specs.declared.structure.Component.{Component}
use Rattle.data_set_trees.specs.clauses.Frames.{has_role}
use Rattle.join_typing.proofs.titles.owned.Given as goal

abbrev pub invariant-loop-component : goal.invariant-loop-component
invariant-loop-component l =
    let titles = λ (c : Component). Some l.operand.alias ∷ [] in
    map titles (filter (has_role l.fn.role) l.operand.structure) ≡ l.all ++ map titles (drop l.component-index l.component-items)
