use Rattle.std.proofs.Common.{◌≡◌, ◌++◌, map, drop}
use Rattle.data_set_trees.specs.Components.{virals}
use Rattle.choice_ops.specs.Plans.{places_of}
use Rattle.choice_ops.proofs.components.all_places.Given as goal

abbrev pub invariant-loop-component : goal.invariant-loop-component
invariant-loop-component l = map (places_of l.first l.holds l.fails) (virals l.structure) ≡ l.all ++ map (places_of l.first l.holds l.fails) (virals (drop l.component-index l.structure))
