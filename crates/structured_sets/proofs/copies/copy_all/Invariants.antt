use Rattle.std.proofs.Common.{◌≡◌, take}
use Rattle.structured_sets.proofs.copies.copy_all.Given as goal

abbrev pub invariant-loop-structure : goal.invariant-loop-structure
invariant-loop-structure l = l.copies ≡ take l.structure-index l.structures
