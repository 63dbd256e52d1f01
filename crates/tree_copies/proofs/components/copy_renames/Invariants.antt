use Rattle.std.proofs.Common.{◌≡◌, take}
use Rattle.tree_copies.proofs.components.copy_renames.Given as goal

abbrev pub invariant-loop-rename : goal.invariant-loop-rename
invariant-loop-rename l = l.copy ≡ take l.rename-index l.renames
