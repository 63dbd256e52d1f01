use Rattle.std.proofs.Common.{◌≡◌, take}
use Rattle.std.specs.Prelude.{fold}
use Rattle.data_set_trees.specs.clauses.After.{with_measure}
use Rattle.clause_typing.proofs.after.add_measures.Given as goal

abbrev pub invariant-loop-item : goal.invariant-loop-item
invariant-loop-item l = l.frame ≡ fold with_measure l.fn.frame (take l.item-index l.items)
