use Rattle.std.proofs.Common.{◌≡◌, take}
use Rattle.std.specs.Prelude.{fold}
use Rattle.data_set_trees.specs.clauses.After.{with_rename}
use Rattle.clause_typing.proofs.after.rename_all.Given as goal

abbrev pub invariant-loop-renaming : goal.invariant-loop-renaming
invariant-loop-renaming l = l.frame ≡ fold with_rename l.fn.frame (take l.renaming-index l.renames)
