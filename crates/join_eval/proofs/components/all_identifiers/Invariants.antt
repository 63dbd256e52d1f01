use Rattle.std.proofs.Common.{◌≡◌, ◌++◌, drop}
use Rattle.std.specs.List.{flat_map}
use Rattle.data_set_trees.specs.Components.{identifiers}
use Rattle.join_eval.proofs.components.all_identifiers.Given as goal

abbrev pub invariant-loop-structure : goal.invariant-loop-structure
invariant-loop-structure l = flat_map identifiers l.structures ≡ l.all ++ flat_map identifiers (drop l.structure-index l.structures)
