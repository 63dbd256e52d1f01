use Rattle.std.proofs.Common.{◌≡◌, ◌++◌, drop}
use Rattle.std.specs.Prelude.{filter_map}
use Rattle.data_set_trees.specs.clauses.Clauses.{rename_checked}
use Rattle.clause_typing.proofs.rename.all_checked.Given as goal

abbrev pub invariant-loop-renaming : goal.invariant-loop-renaming
invariant-loop-renaming l = filter_map (rename_checked l.frame) l.renames ≡ l.all ++ filter_map (rename_checked l.frame) (drop l.renaming-index l.renames)
