use Rattle.std.proofs.Common.{◌≡◌, ◌++◌, [], ◌∷◌, None, List, Option, ℕ, map, drop}
use Rattle.vtl_values.specs.declared.structure.Component.{Component}
use Rattle.join_typing.proofs.titles.all_bare.Given as goal

abbrev pub invariant-loop-component : goal.invariant-loop-component
invariant-loop-component l =
    let titles : Component → List (Option (List ℕ)) = λ c. None ∷ [] in
    map titles l.components ≡ l.all ++ map titles (drop l.component-index l.components)
