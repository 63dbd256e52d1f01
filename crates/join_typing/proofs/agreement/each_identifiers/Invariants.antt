use Rattle.std.proofs.Common.{◌≡◌, ◌++◌, map, drop}
use Rattle.data_set_trees.specs.Components.{identifiers}
use Rattle.join_typing.proofs.agreement.each_identifiers.Given as goal

abbrev pub invariant-loop-structure : goal.invariant-loop-structure
invariant-loop-structure l = map identifiers l.structures ≡ l.all ++ map identifiers (drop l.structure-index l.structures)
