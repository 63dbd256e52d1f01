use Rattle.std.proofs.Common.{◌≡◌, ◌++◌, drop}
use Rattle.data_set_trees.specs.Components.{measures_from}
use Rattle.data_set_parts.proofs.components.measures.Given as goal

abbrev pub invariant-loop-i : goal.invariant-loop-i
invariant-loop-i l = measures_from 0 l.components ≡ l.found ++ measures_from l.i (drop l.i l.components)
