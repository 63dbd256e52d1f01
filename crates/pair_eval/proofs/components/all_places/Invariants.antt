use Rattle.std.proofs.Common.{◌≡◌, ◌++◌, map, drop}
use Rattle.data_set_trees.specs.Components.{virals}
use Rattle.pair_eval.specs.Plans.{places_of}
use Rattle.pair_eval.proofs.components.all_places.Given as goal

abbrev pub invariant-loop-component : goal.invariant-loop-component
invariant-loop-component l = map (places_of l.left l.right) (virals l.structure) ≡ l.all ++ map (places_of l.left l.right) (virals (drop l.component-index l.structure))
