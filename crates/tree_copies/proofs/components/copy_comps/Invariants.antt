use Rattle.std.proofs.Common.{◌≡◌, take}
use Rattle.tree_copies.proofs.components.copy_comps.Given as goal

abbrev pub invariant-loop-comp : goal.invariant-loop-comp
invariant-loop-comp l = l.copy ≡ take l.comp-index l.comps
